-- `queue::view::SideView::key_of` meets its contract. Assumes nothing.
use Rattle.queue.proofs.HeadsKeys.{key_none, key_plus, key_some}
use Rattle.queue.proofs.view.SideView.key_of.Goals as goal

pub returns-in_err-first : goal.returns-in_err-first
returns-in_err-first c = rw c.from_residual.ensures (key_none _ _ _ _ _ c.chain.ensures.0 c.in_err-first.ensures)

pub plus-moment-requires : goal.plus-moment-requires
plus-moment-requires c =
    let f = c.in_ok-first.ensures in
    key_plus _ _ _ _ _ c.chain.ensures.0 c.args.self.now.view.good f.0 _ _ f.1 f.2 _ c.added-plus.ensures _ c.moment.ensures

pub returns : goal.returns
returns c =
    let f = c.in_ok-first.ensures in
    key_some _ _ _ _ _ c.chain.ensures.0 c.args.self.now.view.good f.0 _ _ f.1 f.2 _ c.added-plus.ensures _ _ _ _ _ c.moment.ensures c.plus-moment.ensures c.tag.ensures c.kind.ensures c.rank.ensures
