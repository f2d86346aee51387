-- `network_stack::plan::fit` meets its contract. Assumes nothing.
use Rattle.network_stack.proofs.PlanLaws.{fit_none, fit_pad, fit_send}
use Rattle.network_stack.proofs.plan.fit.Goals as goal

pub returns-in-Nothing : goal.returns-in-Nothing
returns-in-Nothing c = search fit_none

pub returns-in-Pad : goal.returns-in-Pad
returns-in-Pad c = search fit_pad

pub returns-in-Send : goal.returns-in-Send
returns-in-Send c = search fit_send
