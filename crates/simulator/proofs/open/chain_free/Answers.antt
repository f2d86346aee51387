-- `simulator::open::chain_free` meets its contract. Assumes nothing.
use Rattle.simulator.proofs.OpenWords.{chain_turn}
use Rattle.simulator.proofs.open.chain_free.Goals as goal

pub loop-r-preserved : goal.loop-r-preserved
loop-r-preserved c = search chain_turn
