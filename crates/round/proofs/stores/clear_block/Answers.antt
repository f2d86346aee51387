-- `round::stores::clear_block` meets its contract. Assumes nothing.
use Rattle.round.proofs.HeaderWords.{block_cleared}
use Rattle.event.specs.HandedIn.{side_of}
use Rattle.round.proofs.stores.clear_block.Goals as goal

pub returns : goal.returns
returns c = block_cleared _ c.requires (side_of c.args.client) _ c.place-at.ensures.0
