-- `candidate::slots::planned` meets its contract. Assumes nothing.
use mathlib.Core.Path.{◌≡◌}
use native.Mathlib.Omega.{arith}
use Rattle.std.proofs.lemmas.Grind.{common_steps}
use Rattle.std.specs.Option.{option_map}
use Rattle.candidate.specs.declared.Candidate.TheVariants.{Action}
use Rattle.candidate.proofs.PlannedLaws.{planned_as}
use Rattle.candidate.proofs.slots.planned.Goals as goal

pub returns : goal.returns
returns c =
    let e : c.map.result ≡ option_map (λ a. Action (record { slot = c.args.d.slot; action = a })) c.action.result = grind (arith, common_steps) in
    planned_as _ _ _ c.action.ensures.is _ e c.action.ensures.kind
