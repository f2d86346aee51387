-- `candidate::first::aggregate_candidate` meets its contract. Assumes nothing.
use mathlib.Core.Path.{◌≡◌}
use native.Mathlib.Omega.{arith}
use Rattle.std.proofs.lemmas.Grind.{common_steps}
use Rattle.std.specs.Option.{option_map}
use Rattle.queue_event.specs.Chain.{rec_at}
use Rattle.queue_event.specs.Values.{read_aggregate}
use Rattle.candidate.specs.declared.Candidate.TheVariants.{Aggregate}
use Rattle.candidate.proofs.PickLaws.{aggregate_as}
use Rattle.candidate.proofs.first.aggregate_candidate.Goals as goal

pub returns : goal.returns
returns c =
    let e : c.map.result ≡ option_map (λ x. Aggregate (read_aggregate (rec_at x.records.now x.at))) c.head.result = grind (arith, common_steps) in
    aggregate_as _ _ _ _ c.head.ensures e
