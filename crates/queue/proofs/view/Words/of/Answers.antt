-- `queue::view::Words::of` meets its contract. Assumes nothing.
use Rattle.queue.proofs.view.Words.of.Goals as goal

pub returns : goal.returns
returns c = (rw c.unwrap.ensures at c.split_first_chunk.ensures.cases).0
