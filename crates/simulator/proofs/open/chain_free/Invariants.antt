-- `simulator::open::chain_free` meets its contract. Assumes nothing.
use Rattle.simulator.specs.OpeningParts.{Chained}
use Rattle.simulator.proofs.open.chain_free.Given as goal

abbrev pub invariant-loop-r : goal.invariant-loop-r
invariant-loop-r l = Chained l.initial.rest l.count l.rest l.r
