-- `queue_event::words::get` meets its contract. Assumes nothing.
use borrow.Author.Rules.{rules}
use Rattle.queue_event.specs.Words.{word}
use Rattle.queue_event.proofs.words.get.Goals as goal

pub returns : goal.returns
unfolding word
returns c = search rules
