-- `candidate::slots::due` meets its contract. Assumes nothing.
use Rattle.candidate.proofs.SlotLaws.{due_client, due_server, due_none}
use Rattle.candidate.proofs.slots.due.Goals as goal

pub returns-in-Some : goal.returns-in-Some
returns-in-Some g c = λ rs. search (due_client, c.machine_at.ensures rs)

pub returns-in_err-slot : goal.returns-in_err-slot
returns-in_err-slot g c = rw c.from_residual.ensures (λ rs. search (due_none, c.machine_at.ensures rs, c.machine_at-2.ensures rs, c.in_err-slot.was))

pub returns : goal.returns
returns g c = λ rs. search (due_server, c.machine_at.ensures rs, c.machine_at-2.ensures rs, c.in_ok-slot.was)
