-- `packing::rows::write_free` meets its contract. Assumes nothing.
use mathlib.Core.Path.{refl}
use native.Mathlib.Omega.{arith}
use Rattle.packing.proofs.Written.{free_end, free_turn}
use Rattle.packing.proofs.rows.write_free.Goals as goal

pub loop-i-preserved : goal.loop-i-preserved
loop-i-preserved c = search free_turn

pub returns : goal.returns
returns c = free_end _ _ _ _ _ _ _ _ c.loop-i.invariant refl (omega arith)
