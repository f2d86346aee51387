-- `queue::view::View::of` meets its contract. Assumes nothing.
use Rattle.queue.proofs.view.View.of.Goals as goal

pub invariant_of-result : goal.invariant_of-result
invariant_of-result c = let parts = rw c.unwrap.ensures at c.split_first_chunk.ensures.cases in record { good = rw (parts.0, parts.1) c.requires.good }

pub returns : goal.returns
returns c = let parts = rw c.unwrap.ensures at c.split_first_chunk.ensures.cases in record { header = parts.0; records = parts.1 }
