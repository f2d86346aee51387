-- `queue::view::SideView::peek_blocking` meets its contract. Assumes nothing.
use Rattle.queue.proofs.HeadsSides.{waiting_flagged, waiting_plain}
use Rattle.queue.proofs.view.SideView.peek_blocking.Goals as goal

pub returns-then-bypassable : goal.returns-then-bypassable
returns-then-bypassable c = search waiting_flagged

pub returns : goal.returns
returns c = search waiting_plain
