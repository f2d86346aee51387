-- `simulator::slots::set_on` meets its contract. Assumes nothing.
use Rattle.simulator.proofs.Working.{answer_refused}
use Rattle.simulator.proofs.slots.set_on.Goals as goal

pub returns-in_err-admit_set : goal.returns-in_err-admit_set
returns-in_err-admit_set g c = search (answer_refused, c.in_err-admit_set.ensures)
