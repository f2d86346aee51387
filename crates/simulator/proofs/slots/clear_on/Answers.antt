-- `simulator::slots::clear_on` meets its contract. Assumes nothing.
use Rattle.simulator.proofs.Working.{answer_refused}
use Rattle.simulator.proofs.slots.clear_on.Goals as goal

pub returns-in_err-admit_clear : goal.returns-in_err-admit_clear
returns-in_err-admit_clear g c = search (answer_refused, c.in_err-admit_clear.ensures)
