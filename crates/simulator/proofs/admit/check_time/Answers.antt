-- `simulator::admit::check_time` meets its contract. Assumes nothing.
use Rattle.simulator.proofs.ChoiceNumbers.{time_number, time_same}
use Rattle.simulator.proofs.admit.check_time.Goals as goal

pub returns-clause-number : goal.returns-clause-number
returns-clause-number c = search time_number

pub returns-clause-time : goal.returns-clause-time
returns-clause-time c = time_same c.args.time c.ok_or.result _ c.limited.ensures c.ok_or.ensures.value
