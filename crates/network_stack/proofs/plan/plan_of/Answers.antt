-- `network_stack::plan::plan_of` meets its contract. Assumes nothing.
use Rattle.network_stack.proofs.PlanLaws.{plan_send, plan_normal, plan_pad, plan_recv, plan_nothing}
use Rattle.network_stack.proofs.plan.plan_of.Goals as goal

pub returns-in-0 : goal.returns-in-0
returns-in-0 c = search plan_send

pub returns-in-1 : goal.returns-in-1
returns-in-1 c = search plan_normal

pub returns-in-2 : goal.returns-in-2
returns-in-2 c = search plan_pad

pub returns-in-3 : goal.returns-in-3
returns-in-3 c = search plan_recv

pub returns-in_default : goal.returns-in_default
returns-in_default c = search plan_nothing
