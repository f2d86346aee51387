-- `accept::header::Header::all_empty` meets its contract. Assumes nothing.
use native.Mathlib.Omega.{arith}
use borrow.Author.Rules.{rules}
use Rattle.accept.proofs.Slots.{timers_decide, actions_decide}
use Rattle.accept.proofs.header.Header.all_empty.Goals as goal

pub returns-then-none_set : goal.returns-then-none_set
returns-then-none_set c = search (rules, arith, actions_decide)

pub returns-else-none_set : goal.returns-else-none_set
returns-else-none_set c = search (rules, arith, timers_decide)
