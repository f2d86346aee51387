-- `simulator::slots::check_slot` meets its contract. Assumes nothing.
use Rattle.simulator.proofs.SlotNumbers.{slot_5, slot_0}
use Rattle.simulator.proofs.slots.check_slot.Goals as goal

pub returns-then-of_side-slot : goal.returns-then-of_side-slot
returns-then-of_side-slot c = search slot_5

pub returns : goal.returns
returns c = search slot_0
