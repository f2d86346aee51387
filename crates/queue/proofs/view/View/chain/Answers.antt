-- `queue::view::View::chain` meets its contract. Assumes nothing.
use Rattle.queue_event.proofs.Laws.{chain_row}
use Rattle.queue.proofs.view.View.chain.Goals as goal

pub invariant_of-result : goal.invariant_of-result
invariant_of-result c = record { row = rw (c.entry.ensures.count, c.entry.ensures.head) (chain_row _ _ _ _ (c.args.self.now.good.chains c.args.k c.requires).links) }
