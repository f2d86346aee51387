-- `simulator::slots::admit_set` meets its contract. Assumes nothing.
use Rattle.simulator.proofs.Handed.{handed}
use Rattle.simulator.proofs.Admitting.{admit_n, admitted_going}
use Rattle.simulator.proofs.slots.admit_set.Goals as goal

pub returns-in_err-view : goal.returns-in_err-view
returns-in_err-view g c = rw (handed c.from_residual.result c.in_err-view.field-0.0 c.from_residual.ensures) (search (admit_n, c.in_err-view.ensures.admits))

pub admit-requires : goal.admit-requires
admit-requires g c = rw c.in_ok-view.ensures.view (search (admitted_going, c.in_ok-view.ensures.admits))
