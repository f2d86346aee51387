-- `round::blocks::clear_block` meets its contract. Assumes nothing.
use Rattle.round.proofs.BlockLaws.{block_shaped, delay_may, block_done}
use Rattle.round.proofs.blocks.clear_block.Goals as goal

pub clear_block-requires : goal.clear_block-requires
clear_block-requires c = search block_shaped

pub push_aggregate_delay-requires : goal.push_aggregate_delay-requires
push_aggregate_delay-requires c = search delay_may

pub returns : goal.returns
returns c = search block_done
