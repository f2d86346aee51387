-- `network::padding::plan` meets its contract. Assumes nothing.
use borrow.Author.Tests.{not-true, not-false}
use Rattle.network.proofs.PaddingLaws.{plan_own, plan_none, plan_padding, plan_dropped, plan_taken, waits}
use Rattle.network.proofs.padding.plan.Goals as goal

pub returns-then-not-e : goal.returns-then-not-e
returns-then-not-e c = search (plan_own, not-true)

pub returns-in_default : goal.returns-in_default
returns-in_default c = search (plan_none, not-false, c.is_bypassable-bypassable.ensures)

pub returns-then-h : goal.returns-then-h
returns-then-h c = search (plan_padding, not-false, c.is_bypassable-bypassable.ensures)

pub returns-then-not-e-2 : goal.returns-then-not-e-2
returns-then-not-e-2 c = search (plan_dropped, not-false, not-true, c.is_bypassable-bypassable.ensures)

pub replacement-requires : goal.replacement-requires
replacement-requires c = search waits

pub returns : goal.returns
returns c = search (plan_taken, not-false, c.is_bypassable-bypassable.ensures)
