-- `simulator::slots::Timer::put` meets its contract. Assumes nothing.
use Rattle.simulator.proofs.SlotNumbers.{number_is}
use Rattle.simulator.proofs.SlotOutcomes.{timer_small, timer_fits, timer_done}
use Rattle.simulator.proofs.slots.TimerHeld.put.Goals as goal

pub known-requires : goal.known-requires
known-requires c = search timer_small

pub stored-requires : goal.stored-requires
stored-requires c = search timer_fits

pub returns : goal.returns
returns c = let e = number_is _ _ _ c.number-j.ensures c.known.ensures in search (timer_done, e)
