-- `queue_peek::five::Delays::peek_queue` meets its contract. Assumes nothing.
use Rattle.queue_peek.proofs.FiveLaws.{q_filled}
use Rattle.queue_peek.proofs.five.Delays.peek_queue.Goals as goal

pub returns : goal.returns
returns c = q_filled _ _ _ _ _ _ _ c.least.ensures c.offered-found.ensures c.head_delay-self.ensures
