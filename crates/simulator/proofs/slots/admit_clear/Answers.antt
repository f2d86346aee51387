-- `simulator::slots::admit_clear` meets its contract. Assumes nothing.
use Rattle.simulator.proofs.Handed.{handed}
use Rattle.simulator.proofs.Admitting.{admit_n, admitted_going, admitted_number}
use Rattle.simulator.proofs.slots.admit_clear.Goals as goal

pub returns-in_err-view : goal.returns-in_err-view
returns-in_err-view g c = rw (handed c.from_residual.result c.in_err-view.field-0.0 c.from_residual.ensures) (search (admit_n, c.in_err-view.ensures.admits))

pub returns : goal.returns
returns g c = let number = rw c.in_ok-view.ensures.view at c.check_slot.ensures in search (admitted_number, g.met.H.Held.alone, admitted_going, c.in_ok-view.ensures.admits, number)
