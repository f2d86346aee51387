-- `queue_event::chain::LinkedIterator::next` meets its contract. Assumes nothing.
use borrow.Author.Rules.{rules}
use mathlib.Core.Path.{refl}
use Rattle.queue_event.proofs.Laws.{row_step, nodes_step, nodes_less, nodes_none}
use Rattle.queue_event.proofs.chain.LinkedIterator.next.Goals as goal

pub returns-in_err-first-clause-steps : goal.returns-in_err-first-clause-steps
returns-in_err-first-clause-steps c =
    let none = nodes_none _ _ _ c.in_err-first.ensures in
    rw c.from_residual.ensures (none, none)

pub invariant_of-self : goal.invariant_of-self
invariant_of-self c =
    let f = c.in_ok-first.ensures in
    record { row = row_step _ _ _ _ _ _ _ f.0 f.1 f.2 c.less-self.ensures.count (search rules) c.args.self.now.row }

pub returns-clause-steps : goal.returns-clause-steps
returns-clause-steps c =
    let f = c.in_ok-first.ensures in
    (nodes_step _ _ _ _ _ _ _ f.0 f.1 f.2 c.less-self.ensures.count (search rules), f.2, refl)

pub returns-clause-goes : goal.returns-clause-goes
returns-clause-goes c =
    let f = c.in_ok-first.ensures in
    record { on = λ _. (tt, tt, nodes_less _ _ _ (nodes_step _ _ _ _ _ _ _ f.0 f.1 f.2 c.less-self.ensures.count (search rules))); keeps = tt; rests = λ _. tt }
