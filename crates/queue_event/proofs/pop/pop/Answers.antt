-- `queue_event::pop::pop` meets its contract. Assumes nothing.
use Rattle.queue_event.proofs.Frames.{pop_done}
use Rattle.queue_event.proofs.pop.pop.Goals as goal

pub returns : goal.returns
returns c = search pop_done
