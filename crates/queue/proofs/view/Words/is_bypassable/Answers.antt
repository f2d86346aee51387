-- `queue::view::Words::is_bypassable` meets its contract. Assumes nothing.
use Rattle.queue.proofs.ViewLaws.{bypassable}
use Rattle.queue.proofs.view.Words.is_bypassable.Goals as goal

pub returns : goal.returns
returns c = search bypassable
