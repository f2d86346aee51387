-- `simulator::slots::clear_timer` meets its contract. The check finds this answer by itself; must-fail/timer-laws-of-action.edit names it. Assumes nothing.
use Rattle.simulator.proofs.slots.clear_timer.Goals as goal

pub returns : goal.returns
returns c = search c.clear.ensures
