-- `queue_event::read::Record::event` meets its contract. Assumes nothing.
use mathlib.Core.Path.{ap, ◌∙◌}
use Rattle.queue_event.specs.Chain.{rec_at}
use Rattle.queue_event.specs.Tag.{kind_field, padding_field, bypass_field, replace_field, machine_field, flag}
use Rattle.queue_event.proofs.read.Record.event.Goals as goal

pub returns : goal.returns
unfolding rec_at
returns c = λ d.
    record {
      kind = record { 0 = (c.kind.ensures ∙ ap kind_field c.tag-tag.ensures) d };
      moment = record { 0 = c.moment-moment.ensures d };
      delay = record { 0 = c.length-delay.ensures d };
      client = c.args.client;
      padding = (c.padding.ensures ∙ ap (λ t. flag (padding_field t)) c.tag-tag.ensures) d;
      bypass = (c.bypass.ensures ∙ ap (λ t. flag (bypass_field t)) c.tag-tag.ensures) d;
      replace = (c.replace.ensures ∙ ap (λ t. flag (replace_field t)) c.tag-tag.ensures) d;
      machine = (c.machine.ensures ∙ ap machine_field c.tag-tag.ensures) d;
    }
