-- `candidate::first::block_candidate` meets its contract. Assumes nothing.
use Rattle.candidate.proofs.PickLaws.{block_none, block_some}
use Rattle.candidate.proofs.first.block_candidate.Goals as goal

pub returns-in_err-k : goal.returns-in_err-k
returns-in_err-k c = rw c.from_residual.ensures (search (block_none, c.next_block.ensures, c.in_err-k.was))

pub returns : goal.returns
returns c =
    let x = c.side.ensures in
    let by = rw (x.view, x.client) at c.held_up-by.ensures in
    search (block_some, by, c.next_block.ensures, c.in_ok-k.was)
