-- `round::stores::mark_ended` meets its contract. Assumes nothing.
use Rattle.round.proofs.HeaderWords.{ended_set}
use Rattle.round.proofs.stores.mark_ended.Goals as goal

pub returns : goal.returns
returns c = ended_set _ c.requires
