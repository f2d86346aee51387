-- `simulator::step::sim_network_stack_on` meets its contract. Assumes nothing.
use Rattle.simulator.proofs.Working.{step_refused}
use Rattle.simulator.proofs.StepRows.{step_numbered}
use Rattle.simulator.proofs.StepOutcomes.{step_may, step_outcome}
use Rattle.simulator.proofs.step.sim_network_stack_on.Goals as goal

pub returns-in_err-time : goal.returns-in_err-time
returns-in_err-time c = search (step_refused, step_numbered, c.in_err-time.ensures.number)

pub network_step-requires : goal.network_step-requires
network_step-requires c = search (step_may, c.in_ok-time.ensures.number)

pub returns : goal.returns
returns c = let done = rw c.in_ok-time.ensures.time at c.network_step.ensures in search (step_outcome, c.in_ok-time.ensures.number, done)
