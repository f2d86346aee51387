-- `simulator::slots::ScheduledAction::admit` meets its contract. Assumes nothing.
use Rattle.simulator.proofs.Handed.{handed}
use Rattle.simulator.proofs.SlotNumbers.{number_is, action_n, slot_small, action_6, action_7, action_7_duration, action_9, action_0}
use Rattle.simulator.proofs.slots.ScheduledActionHeld.admit.Goals.{then-not-fits-via-then-not-fits, then-not-fits-via-else-not-fits+then-not-fits-2}
use Rattle.simulator.proofs.slots.ScheduledActionHeld.admit.Goals as goal

pub returns-in_err-check_slot : goal.returns-in_err-check_slot
returns-in_err-check_slot c = rw (handed c.from_residual.result c.in_err-check_slot.field-0.0 c.from_residual.ensures) (search (action_n, c.in_err-check_slot.ensures))

pub returns-then-not-known : goal.returns-then-not-known
returns-then-not-known c = search (action_6, c.in_ok-check_slot.ensures)

pub returns-then-not-fits : goal.returns-then-not-fits
returns-then-not-fits c =
    elim c.then-not-fits.branch
    [ then-not-fits-via-then-not-fits w ↦ search (action_7, c.in_ok-check_slot.ensures) | then-not-fits-via-else-not-fits+then-not-fits-2 w ↦ search (action_7_duration, c.in_ok-check_slot.ensures) ]

pub known-requires-2 : goal.known-requires-2
known-requires-2 c = search (slot_small, c.in_ok-check_slot.ensures)

pub returns-then-no_room : goal.returns-then-no_room
returns-then-no_room c = let e = number_is _ _ _ c.number-j.ensures c.known-2.ensures in search (action_9, e, c.in_ok-check_slot.ensures)

pub returns : goal.returns
returns c = let e = number_is _ _ _ c.number-j.ensures c.known-2.ensures in search (action_0, e, c.in_ok-check_slot.ensures)
