-- `queue_peek::delays` meets its contract. Assumes nothing.
use Rattle.queue_peek.proofs.FiveLaws.{all_filled}
use Rattle.queue_peek.proofs.delays.Goals as goal

pub returns : goal.returns
returns c = let e = c.of-slotted.ensures in all_filled _ _ _ _ _ _ _ _ _ c.none.ensures.0 (rw e at c.peek_scheduled_action.ensures.0 _) (rw e at c.peek_scheduled_internal_timer.ensures.0 _) (c.peek_blocked_exp.ensures.0 _) c.peek_aggregate_delay.ensures.0 c.peek_queue.ensures
