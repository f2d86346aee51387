-- `simulator::step::admit_step` meets its contract. Assumes nothing.
use mathlib.Core.Path.{◌≡◌}
use Rattle.moment.specs.declared.Time.{Time}
use Rattle.simulator.proofs.Handed.{handed, no_value}
use Rattle.simulator.proofs.StepRows.{upto_n, upto_rows}
use Rattle.simulator.proofs.step.admit_step.Goals as goal

pub returns-in_err-view-clause-number : goal.returns-in_err-view-clause-number
returns-in_err-view-clause-number c = rw (handed c.from_residual.result c.in_err-view.field-0.0 c.from_residual.ensures) (search (upto_n, c.in_err-view.ensures.admits))

pub returns-in_err-view-clause-time : goal.returns-in_err-view-clause-time
returns-in_err-view-clause-time c = no_value (λ (t : Time). t.at ≡ c.args.time) c.from_residual.result c.from_residual.ensures.0

pub returns : goal.returns
returns c = let rows = rw c.in_ok-view.ensures.view at c.check_step.ensures in search (upto_rows, c.in_ok-view.ensures.admits, rows)
