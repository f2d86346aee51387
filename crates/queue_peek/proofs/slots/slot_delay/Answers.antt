-- `queue_peek::slots::slot_delay` meets its contract. Assumes nothing.
use Rattle.queue_peek.proofs.SlotDelays.{slot_none, slot_past, slot_due}
use Rattle.queue_peek.proofs.slots.slot_delay.Goals as goal

pub returns-in_err-m : goal.returns-in_err-m
returns-in_err-m c = rw c.from_residual.ensures (search (slot_none, c.in_err-m.was))

pub returns-then-lt : goal.returns-then-lt
returns-then-lt c = search (slot_past, c.in_ok-m.was)

pub returns-else-lt : goal.returns-else-lt
returns-else-lt c = search (slot_due, c.in_ok-m.was)
