-- `queue_event::chain::Linked::end` meets its contract. Assumes nothing.
use mathlib.Core.Path.{refl, sym, subst}
use Rattle.queue_event.specs.Walks.{Finds}
use Rattle.queue_event.proofs.Appends.{walk_last}
use Rattle.queue_event.proofs.chain.Linked.end.Goals as goal

pub returns : goal.returns
returns c =
    let (xs, d, e) = c.last.ensures.ran in
    subst (Finds _ _) (sym e) (walk_last _ xs _ _ refl tt d)
