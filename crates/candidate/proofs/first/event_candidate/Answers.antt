-- `candidate::first::event_candidate` meets its contract. Assumes nothing.
use mathlib.Core.Path.{◌≡◌}
use native.Mathlib.Omega.{arith}
use Rattle.std.proofs.lemmas.Grind.{common_steps}
use Rattle.std.specs.Option.{option_map}
use Rattle.candidate.specs.declared.Candidate.TheVariants.{Event}
use Rattle.candidate.proofs.PickLaws.{event_as}
use Rattle.candidate.proofs.first.event_candidate.Goals as goal

pub returns : goal.returns
returns c = let e : c.map.result ≡ option_map (λ x. Event x) c.args.found = grind (arith, common_steps) in λ h rs o p. event_as _ _ e _ _ o p
