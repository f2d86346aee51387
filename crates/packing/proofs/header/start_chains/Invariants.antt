-- `packing::header::start_chains` meets its contract. Assumes nothing.
use Rattle.std.specs.Prelude.{◌-◌, ◌≡◌}
use Rattle.packing.specs.Heads.{Starts, heads_of, counts_of}
use Rattle.packing.proofs.header.start_chains.Given as goal

abbrev pub invariant-loop-k : goal.invariant-loop-k
invariant-loop-k l = (counts_of l.packed ≡ counts_of l.chains) × Starts (counts_of l.chains) (heads_of l.packed) (l.k - 1) l.place
