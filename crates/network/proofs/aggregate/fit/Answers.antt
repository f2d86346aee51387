-- `network::aggregate::fit` meets its contract. Assumes nothing.
use Rattle.network.proofs.DueLaws.{fit_none, fit_second, fit_first}
use Rattle.network.proofs.aggregate.fit.Goals as goal

pub returns-in_default : goal.returns-in_default
returns-in_default c = search fit_none

pub returns-then-fits : goal.returns-then-fits
returns-then-fits c = search fit_second

pub returns-else-fits : goal.returns-else-fits
returns-else-fits c = search fit_first
