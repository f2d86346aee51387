-- `delay::base_moment` meets its contract. Assumes nothing.
use Rattle.delay.proofs.Packets.{base_none, base_some, base_fits}
use Rattle.delay.proofs.base_moment.Goals as goal

pub returns-in_err-first : goal.returns-in_err-first
returns-in_err-first c = rw c.from_residual.ensures (base_none _ _ _ _ c.chain.ensures.0 c.chain.ensures.1 _ c.in_err-first.ensures)

pub plus-requires : goal.plus-requires
plus-requires c =
    let f = c.in_ok-first.ensures in
    base_fits _ _ _ _ c.chain.ensures.0 c.chain.ensures.1 _ _ _ f.0 f.1 f.2 c.moment.ensures _ c.args.side.now.view.good c.args.sum.within

pub returns : goal.returns
returns c =
    let f = c.in_ok-first.ensures in
    base_some _ _ _ _ c.chain.ensures.0 c.chain.ensures.1 _ _ _ f.0 f.1 f.2 c.moment.ensures _ _ c.plus.ensures
