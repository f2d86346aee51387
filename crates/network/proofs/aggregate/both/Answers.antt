-- `network::aggregate::both` meets its contract. Assumes nothing.
use Rattle.network.proofs.DueLaws.{both_due}
use Rattle.network.proofs.aggregate.both.Goals as goal

pub returns : goal.returns
returns c = both_due _ _ _ _ _ _ c.due-first.ensures c.due-second.ensures
