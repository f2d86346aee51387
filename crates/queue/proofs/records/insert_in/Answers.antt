-- `queue::records::insert_in` meets its contract. Assumes nothing.
use Rattle.queue.proofs.LentLaws.{join_chain, join_ends, join_sorted, join_used, join_in, join_free, inserted_in}
use Rattle.queue.proofs.records.insert_in.Goals as goal

pub insert-requires-clause-linked : goal.insert-requires-clause-linked
insert-requires-clause-linked c = search join_chain

pub insert-requires-clause-used : goal.insert-requires-clause-used
insert-requires-clause-used c = search join_used

pub insert-requires-clause-ends : goal.insert-requires-clause-ends
insert-requires-clause-ends c = search join_ends

pub insert-requires-clause-sorted : goal.insert-requires-clause-sorted
insert-requires-clause-sorted c = search join_sorted

pub insert-requires-clause-within : goal.insert-requires-clause-within
insert-requires-clause-within c = search join_in

pub insert-requires-clause-free : goal.insert-requires-clause-free
insert-requires-clause-free c = search join_free

pub returns : goal.returns
returns c = search inserted_in
