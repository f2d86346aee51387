-- `network::padding::fit` meets its contract. Assumes nothing.
use Rattle.network.proofs.PaddingLaws.{fit_none, fit_taken}
use Rattle.network.proofs.padding.fit.Goals as goal

pub returns-in-Own : goal.returns-in-Own
returns-in-Own c = search fit_none

pub returns-in-Replaces : goal.returns-in-Replaces
returns-in-Replaces c = search fit_taken
