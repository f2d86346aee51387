-- `queue::view::Words::timer` meets its contract. Assumes nothing.
use mathlib.Core.Path.{refl}
use Rattle.queue.proofs.SlotLaws.{timer_read}
use Rattle.queue.proofs.view.Words.timer.Goals as goal

pub returns : goal.returns
returns c = search (timer_read, c.from_stored.ensures, c.number.ensures)
