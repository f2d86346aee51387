-- `network::window::rate_of` meets its contract. Assumes nothing.
use Rattle.network.proofs.StampLaws.{rated}
use Rattle.network.proofs.window.rate_of.Goals as goal

pub returns : goal.returns
returns c = search rated
