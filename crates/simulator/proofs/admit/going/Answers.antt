-- `simulator::admit::going` meets its contract. Assumes nothing.
use Rattle.simulator.proofs.Admitting.{ended_3, ended_0}
use Rattle.simulator.proofs.admit.going.Goals as goal

pub returns-then-block-ne0 : goal.returns-then-block-ne0
returns-then-block-ne0 c = search ended_3

pub returns : goal.returns
returns c = search ended_0
