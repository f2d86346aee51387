-- `network::aggregate::records_for` meets its contract. Assumes nothing.
use Rattle.network.proofs.DueLaws.{for_none, for_two}
use Rattle.network.proofs.aggregate.records_for.Goals as goal

pub returns-in-Some : goal.returns-in-Some
returns-in-Some c = search for_two

pub returns-in-None : goal.returns-in-None
returns-in-None c = search for_none
