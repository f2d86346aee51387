-- `packing::header::write_header` meets its contract. Assumes nothing.
use Rattle.packing.specs.Heads.{HeaderTo, heads_of, counts_of}
use Rattle.packing.proofs.header.write_header.Given as goal

abbrev pub invariant-loop-i : goal.invariant-loop-i
invariant-loop-i l = HeaderTo l.head (heads_of l.chains) (counts_of l.chains) l.initial.out l.out l.i
