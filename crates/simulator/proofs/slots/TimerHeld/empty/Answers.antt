-- `simulator::slots::Timer::empty` meets its contract. Assumes nothing.
use Rattle.simulator.proofs.SlotOutcomes.{clear_small, clear_done}
use Rattle.simulator.proofs.slots.TimerHeld.empty.Goals as goal

pub known-requires : goal.known-requires
known-requires c = search clear_small

pub returns : goal.returns
returns c = rw c.clear_timer.ensures (search (clear_done, c.known.ensures))
