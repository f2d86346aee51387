-- `round::cases::take_event` meets its contract. Assumes nothing.
use Rattle.round.proofs.TakeLaws.{event_taken}
use mathlib.Core.Path.{refl}
use Rattle.moment.proofs.Order.{max_is}
use Rattle.round.proofs.cases.take_event.Goals as goal

pub returns : goal.returns
returns c = event_taken _ c.args.h c.requires _ c.chain.ensures _ _ c.max.result _ c.release.ensures (max_is _ _ _ c.max.ensures) refl
