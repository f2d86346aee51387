-- `packing::header::start_chains` meets its contract. Assumes nothing.
use mathlib.Core.Path.{refl}
use borrow.Author.Rules.{rules}
use Rattle.std.proofs.lemmas.List.{length-map}
use native.Mathlib.Omega.{arith}
use Rattle.packing.proofs.Headers.{count_at, starts_none, starts_fit, packed_turn}
use Rattle.packing.proofs.header.start_chains.Goals as goal

pub loop-k-init : goal.loop-k-init
loop-k-init c = (refl, starts_none _ _ (rw length-map (search rules)))

pub overflow_add-place : goal.overflow_add-place
overflow_add-place c = record { fits = omega (arith, count_at c.args.chains.now c.loop-k.k, starts_fit _ _ _ _ c.requires (omega arith) (omega arith) c.loop-k.invariant.1) }

pub loop-k-preserved : goal.loop-k-preserved
loop-k-preserved c = packed_turn _ _ _ _ _ c.first.ensures (omega arith) (omega arith) c.loop-k.invariant
