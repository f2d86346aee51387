-- `simulator::slots::ScheduledAction::empty` meets its contract. Assumes nothing.
use Rattle.simulator.proofs.ActionOutcomes.{emptied_small, emptied_done}
use Rattle.simulator.proofs.slots.ScheduledActionHeld.empty.Goals as goal

pub known-requires : goal.known-requires
known-requires c = search emptied_small

pub returns : goal.returns
returns c = search (emptied_done, c.known.ensures, c.clear_action.ensures)
