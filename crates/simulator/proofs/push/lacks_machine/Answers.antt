-- `simulator::push::lacks_machine` meets its contract. Assumes nothing.
use Rattle.simulator.proofs.EventNumbers.{lacks_some}
use Rattle.simulator.proofs.push.lacks_machine.Goals as goal

pub returns-then-has_machine : goal.returns-then-has_machine
returns-then-has_machine c = search lacks_some
