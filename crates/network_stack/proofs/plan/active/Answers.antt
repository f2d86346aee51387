-- `network_stack::plan::active` meets its contract. Assumes nothing.
use Rattle.network_stack.proofs.PlanLaws.{active_yes, active_not}
use Rattle.network_stack.proofs.plan.active.Goals as goal

pub returns-in-0 : goal.returns-in-0
returns-in-0 c = search active_yes

pub returns-in_default : goal.returns-in_default
returns-in_default c = search active_not
