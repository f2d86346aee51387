-- `queue::view::SideView::peek_non_blocking` meets its contract. Assumes nothing.
use Rattle.queue.proofs.HeadsSides.{passing_flagged, passing_plain}
use Rattle.queue.proofs.view.SideView.peek_non_blocking.Goals as goal

pub returns-then-not-bypassable : goal.returns-then-not-bypassable
returns-then-not-bypassable c = search passing_plain

pub returns : goal.returns
returns c = search passing_flagged
