-- `simulator::choice::admit_choice` meets its contract. Assumes nothing.
use mathlib.Core.Path.{◌≡◌}
use Rattle.moment.specs.declared.Time.{Time}
use Rattle.simulator.proofs.Handed.{handed, no_value}
use Rattle.simulator.proofs.Admitting.{admit_n}
use Rattle.simulator.proofs.ChoiceNumbers.{choice_number}
use Rattle.simulator.proofs.choice.admit_choice.Goals as goal

pub returns-in_err-going-clause-number : goal.returns-in_err-going-clause-number
returns-in_err-going-clause-number c = rw (handed c.from_residual.result c.in_err-going.field-0.0 c.from_residual.ensures) (search (admit_n, c.in_err-going.ensures.admits))

pub returns-in_err-going-clause-time : goal.returns-in_err-going-clause-time
returns-in_err-going-clause-time c = no_value (λ (t : Time). t.at ≡ c.args.time) c.from_residual.result c.from_residual.ensures.0

pub returns : goal.returns
returns c = search (choice_number, c.in_ok-going.ensures.admits)
