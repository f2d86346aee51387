-- `network::padding::replacement` meets its contract. Assumes nothing.
use Rattle.network.proofs.PaddingLaws.{replaced}
use Rattle.network.proofs.padding.replacement.Goals as goal

pub returns : goal.returns
returns c = search replaced
