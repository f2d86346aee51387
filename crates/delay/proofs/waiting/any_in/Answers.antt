-- `delay::waiting::any_in` meets its contract. Assumes nothing.
use Rattle.delay.proofs.Packets.{chain_sorted, any_held}
use Rattle.delay.proofs.waiting.any_in.Goals as goal

pub any_within-requires : goal.any_within-requires
any_within-requires c = chain_sorted _ _ _ _ _ c.chain-k.ensures.0 c.chain-k.ensures.1 _ c.chain.ensures.all c.args.side.now.view.good

pub returns : goal.returns
returns c = any_held _ _ _ _ _ c.chain-k.ensures.0 c.chain-k.ensures.1 _ c.chain.ensures.all _ _ _ c.any_within.ensures
