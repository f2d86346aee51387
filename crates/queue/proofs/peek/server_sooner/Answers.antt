-- `queue::peek::server_sooner` meets its contract. Assumes nothing.
use mathlib.Core.Path.{◌∙◌}
use Rattle.queue_event.proofs.Pairs.{pair_lt}
use Rattle.queue.proofs.HeadsKeys.{second_none, second_only, second_told}
use Rattle.queue.proofs.peek.server_sooner.Goals as goal

pub returns-in_default : goal.returns-in_default
returns-in_default c = search second_none

pub returns-in_default-client : goal.returns-in_default-client
returns-in_default-client c = search second_only

pub returns : goal.returns
returns c = second_told _ _ _ _ c.in-Some.is _ _ _ _ c.in-Some-client.is c.since-x.ensures c.since-y.ensures (c.lt.ensures ∙ pair_lt c.since-y.result.0 c.in-Some.s.rank c.since-x.result.0 c.in-Some-client.c.rank)
