-- `queue::records::push_sim` meets its contract. Assumes nothing.
use Rattle.queue.proofs.Pushing.{push_may, push_ordered, push_done}
use Rattle.queue.proofs.records.push_sim.Goals as goal

pub queue_record-requires-clause-may : goal.queue_record-requires-clause-may
queue_record-requires-clause-may c = search push_may

pub queue_record-requires-clause-ordered : goal.queue_record-requires-clause-ordered
queue_record-requires-clause-ordered c = search push_ordered

pub returns : goal.returns
returns c = search push_done
