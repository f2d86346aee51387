-- `queue_event::insert::stays` meets its contract. Assumes nothing.
use mathlib.Core.Path.{ap₂, ◌∙◌}
use Rattle.std.specs.Prelude.{not}
use Rattle.rules.specs.Basics.{before}
use Rattle.queue_event.specs.Order.{stays}
use Rattle.queue_event.proofs.Pairs.{pair_le}
use Rattle.queue_event.proofs.insert.stays.Goals as goal

pub returns : goal.returns
unfolding stays
returns c = c.le.ensures ∙ pair_le c.args.a c.kind.result c.args.b c.kind-2.result ∙ ap₂ (λ y x. not (before c.args.b y c.args.a x)) c.kind-2.ensures c.kind.ensures
