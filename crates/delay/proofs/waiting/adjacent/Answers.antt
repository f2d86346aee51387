-- `delay::waiting::adjacent` meets its contract. Assumes nothing.
use Rattle.delay.proofs.Packets.{adjacent_first, adjacent_second}
use Rattle.delay.proofs.waiting.adjacent.Goals as goal

pub returns-then-any_in : goal.returns-then-any_in
returns-then-any_in c = search adjacent_first

pub returns-else-any_in : goal.returns-else-any_in
returns-else-any_in c = search adjacent_second
