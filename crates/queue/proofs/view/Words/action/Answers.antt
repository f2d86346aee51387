-- `queue::view::Words::action` meets its contract. Assumes nothing.
use Rattle.queue.specs.Slots.{KindIn}
use Rattle.queue.proofs.SlotLaws.{action_none, action_some, action_kind}
use Rattle.queue.proofs.view.Words.action.Goals as goal

pub returns-then-word-eq0-clause-is : goal.returns-then-word-eq0-clause-is
returns-then-word-eq0-clause-is c = search action_none

pub returns-then-word-eq0-clause-kind : goal.returns-then-word-eq0-clause-kind
unfolding KindIn
returns-then-word-eq0-clause-kind c = tt

pub returns-clause-is : goal.returns-clause-is
returns-clause-is c = search (action_some, c.if-word-eq0.false)

pub returns-clause-kind : goal.returns-clause-kind
returns-clause-kind c = search action_kind
