-- `queue::records::push_aggregate` meets its contract. Assumes nothing.
use Rattle.queue.proofs.Pushing.{add_may, add_ordered, add_done}
use Rattle.queue.proofs.records.push_aggregate.Goals as goal

pub queue_record-requires-clause-may : goal.queue_record-requires-clause-may
queue_record-requires-clause-may c = search add_may

pub queue_record-requires-clause-ordered : goal.queue_record-requires-clause-ordered
queue_record-requires-clause-ordered c = search add_ordered

pub returns : goal.returns
returns c = search add_done
