-- `queue_event::words::store` meets its contract. Assumes nothing.
use borrow.Author.Rules.{rules}
use Rattle.queue_event.specs.Words.{put}
use Rattle.queue_event.proofs.words.store.Goals as goal

pub returns : goal.returns
unfolding put
returns c = search rules
