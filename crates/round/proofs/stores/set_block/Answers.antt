-- `round::stores::set_block` meets its contract. Assumes nothing.
use Rattle.round.proofs.HeaderWords.{block_set}
use Rattle.round.proofs.stores.set_block.Goals as goal

pub returns : goal.returns
returns c = search block_set
