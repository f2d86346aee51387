-- `queue_peek::five::Delays::peek_scheduled_action` meets its contract. Assumes nothing.
use Rattle.queue_peek.proofs.FiveLaws.{s_filled}
use mathlib.Core.Path.{refl}
use Rattle.queue_peek.proofs.five.Delays.peek_scheduled_action.Goals as goal

pub returns : goal.returns
returns c = (λ rs. search (s_filled, c.least_of_both-self.ensures), refl)
