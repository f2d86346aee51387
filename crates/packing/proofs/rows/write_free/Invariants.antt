-- `packing::rows::write_free` meets its contract. Assumes nothing.
use Rattle.std.specs.Prelude.{◌+◌, ◌-◌, ◌*◌, ◌++◌, take}
use Rattle.layout.specs.Packed.{chain_words, zero_recs}
use Rattle.packing.specs.Writing.{Zeroes}
use Rattle.packing.proofs.rows.write_free.Given as goal

abbrev pub invariant-loop-i : goal.invariant-loop-i
invariant-loop-i l = Zeroes (take (4 * l.place - 4) l.initial.out ++ chain_words l.place (zero_recs l.count)) l.initial.out (l.place + l.count) l.out (l.count - l.i) (l.place + l.i)
