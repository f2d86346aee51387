-- `queue::view::SideView::key` meets its contract. Assumes nothing.
use Rattle.queue.proofs.HeadsKeys.{side_keyed}
use Rattle.queue.proofs.view.SideView.key.Goals as goal

pub returns : goal.returns
returns c = search side_keyed
