-- `queue::view::SideView::keyed` meets its contract. Assumes nothing.
use Rattle.queue.proofs.HeadsKeys.{named_none}
use Rattle.queue.proofs.view.SideView.keyed.Goals as goal

pub returns-in_err-key : goal.returns-in_err-key
returns-in_err-key c = rw c.from_residual.ensures (search (named_none, c.in_err-key.was))
