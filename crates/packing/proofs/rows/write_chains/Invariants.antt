-- `packing::rows::write_chains` meets its contract. Assumes nothing.
use Rattle.packing.specs.Heads.{heads_of, counts_of}
use Rattle.packing.specs.Writing.{chains_of, Writes}
use Rattle.packing.proofs.rows.write_chains.Given as goal

abbrev pub invariant-loop-chain : goal.invariant-loop-chain
invariant-loop-chain l = Writes (chains_of l.rest (heads_of l.chains) (counts_of l.chains)) l.initial.out l.out l.chain-index l.place
