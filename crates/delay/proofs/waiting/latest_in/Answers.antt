-- `delay::waiting::latest_in` meets its contract. Assumes nothing.
use Rattle.delay.proofs.Packets.{chain_sorted, latest_held}
use Rattle.delay.proofs.waiting.latest_in.Goals as goal

pub latest-requires : goal.latest-requires
latest-requires c = chain_sorted _ _ _ _ _ c.chain-k.ensures.0 c.chain-k.ensures.1 _ c.chain.ensures.all c.args.side.now.view.good

pub returns : goal.returns
returns c = latest_held _ _ _ _ _ c.chain-k.ensures.0 c.chain-k.ensures.1 _ c.chain.ensures.all _ _ _ _ c.latest.ensures
