-- `queue_event::insert::insert` meets its contract. Assumes nothing.
use native.Mathlib.Omega.{arith}
use mathlib.Core.Path.{refl, ap, ◌∙◌}
use lib.Dec.{lit<}
use Rattle.queue_event.specs.Words.{next_of}
use Rattle.queue_event.proofs.Inserts.{insert_front, insert_after}
use Rattle.queue_event.proofs.Laws.{chain_row}
use Rattle.queue_event.proofs.Links.{filled_in}
use Rattle.queue_event.proofs.insert.insert.Goals as goal

pub invariant_of-all : goal.invariant_of-all
invariant_of-all c = record { row = chain_row _ _ _ _ c.requires.linked }

pub returns-in_default : goal.returns-in_default
returns-in_default c = insert_front _ _ _ _ _ _ _ _ c.requires.linked c.requires.used c.requires.within c.requires.free c.in_default.ensures.number _ refl c.fill.ensures

pub store-requires : goal.store-requires
store-requires c = record { within = filled_in _ _ _ _ _ _ _ _ _ c.requires.within c.fill-2.ensures c.in-Some.ensures.of c.in-Some.pred.within; field = lit< tt }

pub returns : goal.returns
returns c =
    let one = c.in-Some.pred.within.one in
    let next = c.next-next.ensures ∙ ap (λ rs. next_of rs c.in-Some.pred.at) c.in-Some.ensures.of in
    insert_after _ _ _ _ _ _ _ _ c.requires.linked c.requires.used c.requires.within c.requires.free c.in-Some.ensures.number _ _ _ (λ e. omega arith) next c.fill-2.ensures c.store.ensures
