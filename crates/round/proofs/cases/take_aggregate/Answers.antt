-- `round::cases::take_aggregate` meets its contract. Assumes nothing.
use Rattle.round.proofs.TakeLaws.{aggregate_may, aggregate_taken}
use Rattle.round.proofs.cases.take_aggregate.Goals as goal

pub release-requires : goal.release-requires
release-requires c = aggregate_may _ c.args.a c.requires _ c.raise_sum.ensures

pub returns : goal.returns
returns c = aggregate_taken _ c.args.a c.requires _ c.raise_sum.ensures _ c.release.ensures
