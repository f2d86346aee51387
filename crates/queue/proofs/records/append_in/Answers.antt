-- `queue::records::append_in` meets its contract. Assumes nothing.
use Rattle.queue.proofs.LentLaws.{join_chain, join_ends, join_used, join_in, join_free, appended_in}
use Rattle.queue.proofs.records.append_in.Goals as goal

pub append-requires-clause-linked : goal.append-requires-clause-linked
append-requires-clause-linked c = search join_chain

pub append-requires-clause-ends : goal.append-requires-clause-ends
append-requires-clause-ends c = search join_ends

pub append-requires-clause-used : goal.append-requires-clause-used
append-requires-clause-used c = search join_used

pub append-requires-clause-within : goal.append-requires-clause-within
append-requires-clause-within c = search join_in

pub append-requires-clause-free : goal.append-requires-clause-free
append-requires-clause-free c = search join_free

pub returns : goal.returns
returns c = search appended_in
