-- `network::window::extra` meets its contract. Assumes nothing.
use Rattle.network.proofs.StampLaws.{above_at}
use Rattle.network.proofs.window.extra.Goals as goal

pub share-requires : goal.share-requires
share-requires c = search above_at
