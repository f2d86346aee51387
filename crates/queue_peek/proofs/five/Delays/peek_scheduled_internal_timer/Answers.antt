-- `queue_peek::five::Delays::peek_scheduled_internal_timer` meets its contract. Assumes nothing.
use Rattle.queue_peek.proofs.FiveLaws.{i_filled}
use mathlib.Core.Path.{refl}
use Rattle.queue_peek.proofs.five.Delays.peek_scheduled_internal_timer.Goals as goal

pub returns : goal.returns
returns c = (λ rs. search (i_filled, c.least_of_both-self.ensures), refl)
