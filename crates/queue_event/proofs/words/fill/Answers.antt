-- `queue_event::words::fill` meets its contract. Assumes nothing.
use Rattle.queue_event.specs.Words.{filled}
use Rattle.queue_event.proofs.words.fill.Goals as goal

pub returns : goal.returns
unfolding filled
returns c = cc
