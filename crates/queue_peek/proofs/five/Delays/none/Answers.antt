-- `queue_peek::five::Delays::none` meets its contract. Assumes nothing.
use Rattle.queue_peek.proofs.FiveLaws.{none_filled}
use mathlib.Core.Path.{refl}
use Rattle.queue_peek.proofs.five.Delays.none.Goals as goal

pub returns : goal.returns
returns c = (none_filled, refl)
