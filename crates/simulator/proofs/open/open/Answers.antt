-- `simulator::open::open` meets its contract. Assumes nothing.
use Rattle.simulator.proofs.OpenNumbers.{opens_1, opens_4, opens_0}
use Rattle.simulator.proofs.open.open.Goals as goal

pub returns-then-not-size_ok : goal.returns-then-not-size_ok
returns-then-not-size_ok c = search opens_1

pub returns-then-not-fits : goal.returns-then-not-fits
returns-then-not-fits c = search opens_4

pub returns : goal.returns
returns c = search opens_0
