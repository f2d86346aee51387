-- `queue_event::read::Record::aggregate` meets its contract. Assumes nothing.
use mathlib.Core.Path.{ap, ◌∙◌}
use Rattle.queue_event.specs.Chain.{rec_at}
use Rattle.queue_event.specs.Tag.{side_field, is_client}
use Rattle.queue_event.proofs.read.Record.aggregate.Goals as goal

pub returns : goal.returns
unfolding rec_at
returns c = λ d. record { moment = record { 0 = c.moment.ensures d }; length = record { 0 = c.length.ensures d }; client = (c.client.ensures ∙ ap (λ t. is_client (side_field t)) c.tag.ensures) d }
