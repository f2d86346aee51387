-- `queue_event::chain::Linked::first` meets its contract. Assumes nothing.
use native.Mathlib.Omega.{arith}
use Rattle.queue_event.proofs.Laws.{row_in}
use Rattle.queue_event.proofs.chain.Linked.first.Goals as goal

pub invariant_of-result : goal.invariant_of-result
invariant_of-result c = record { within = row_in _ _ _ (omega arith) c.args.self.now.row }
