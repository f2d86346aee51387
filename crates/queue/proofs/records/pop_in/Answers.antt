-- `queue::records::pop_in` meets its contract. Assumes nothing.
use Rattle.queue.proofs.LentLaws.{pop_in, pop_used, popped_in}
use Rattle.queue.proofs.records.pop_in.Goals as goal

pub pop-requires-clause-within : goal.pop-requires-clause-within
pop-requires-clause-within c = search pop_in

pub pop-requires-clause-used : goal.pop-requires-clause-used
pop-requires-clause-used c = search pop_used

pub returns : goal.returns
returns c = search popped_in
