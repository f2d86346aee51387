-- `queue_peek::order::not_later` meets its contract. Assumes nothing.
use Rattle.queue_peek.proofs.DelayOrder.{not_later_none, not_later_never, not_later_both}
use Rattle.queue_peek.proofs.order.not_later.Goals as goal

pub returns-in_default-None : goal.returns-in_default-None
returns-in_default-None c = search not_later_none

pub returns-in-None-Some : goal.returns-in-None-Some
returns-in-None-Some c = search not_later_never

pub returns-in-Some-Some : goal.returns-in-Some-Some
returns-in-Some-Some c = search not_later_both
