-- `simulator::slots::Timer::admit` meets its contract. Assumes nothing.
use Rattle.simulator.proofs.Handed.{handed}
use Rattle.simulator.proofs.SlotNumbers.{number_is, timer_n, slot_small, timer_7, timer_9, timer_0}
use Rattle.simulator.proofs.slots.TimerHeld.admit.Goals as goal

pub returns-in_err-check_slot : goal.returns-in_err-check_slot
returns-in_err-check_slot c = rw (handed c.from_residual.result c.in_err-check_slot.field-0.0 c.from_residual.ensures) (search (timer_n, c.in_err-check_slot.ensures))

pub returns-then-not-fits : goal.returns-then-not-fits
returns-then-not-fits c = search (timer_7, c.in_ok-check_slot.ensures)

pub known-requires : goal.known-requires
known-requires c = search (slot_small, c.in_ok-check_slot.ensures)

pub returns-then-no_room : goal.returns-then-no_room
returns-then-no_room c = let e = number_is _ _ _ c.number-j.ensures c.known.ensures in search (timer_9, e, c.in_ok-check_slot.ensures)

pub returns : goal.returns
returns c = let e = number_is _ _ _ c.number-j.ensures c.known.ensures in search (timer_0, e, c.in_ok-check_slot.ensures)
