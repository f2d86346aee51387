-- `queue::view::Words::block_end` meets its contract. Assumes nothing.
use Rattle.queue.proofs.ViewLaws.{its_end}
use Rattle.queue.proofs.view.Words.block_end.Goals as goal

pub returns : goal.returns
returns c = search its_end
