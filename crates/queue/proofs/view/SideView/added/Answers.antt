-- `queue::view::SideView::added` meets its contract. Assumes nothing.
use Rattle.queue.proofs.HeadsKeys.{added_base}
use Rattle.queue.proofs.view.SideView.added.Goals as goal

pub returns-in-Base : goal.returns-in-Base
returns-in-Base c = search added_base
