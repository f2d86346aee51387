-- `packing::rows::write_chains` meets its contract. Assumes nothing.
use borrow.Author.Rules.{rules}
use Prim.Native.Nat.{suc, ◌+◌}
use mathlib.Core.Path.{◌≡◌}
use native.Mathlib.Omega.{arith}
use Rattle.packing.proofs.Headers.{next_head, next_count}
use Rattle.packing.proofs.Written.{chains_start, fit_next, turn_next}
use Rattle.packing.proofs.rows.write_chains.Goals as goal

pub loop-chain-init : goal.loop-chain-init
loop-chain-init c = chains_start _ _

pub invariant_of-linked : goal.invariant_of-linked
invariant_of-linked c = record { row = rw (next_count c.args.chains.now c.loop-chain.chain-index (omega arith), next_head c.args.chains.now c.loop-chain.chain-index (omega arith)) (c.requires.rows (suc c.loop-chain.chain-index) (omega arith) (omega arith)) }

pub copy_chain-requires-clause-room : goal.copy_chain-requires-clause-room
copy_chain-requires-clause-room c = rw (next_count c.args.chains.now c.loop-chain.chain-index (omega arith)) (fit_next _ _ _ _ _ _ _ c.loop-chain.invariant (omega arith) c.requires.counts_in_bounds)

pub overflow_add-place : goal.overflow_add-place
overflow_add-place c = record { fits = omega (arith, next_count c.args.chains.now c.loop-chain.chain-index (omega arith), fit_next _ _ _ _ _ _ _ c.loop-chain.invariant (omega arith) c.requires.counts_in_bounds, c.loop-chain.invariant.len) }

pub loop-chain-preserved : goal.loop-chain-preserved
loop-chain-preserved c =
    let after : c.loop-chain.chain-index + 1 ≡ suc c.loop-chain.chain-index = omega arith in
    rw (after, next_count c.args.chains.now c.loop-chain.chain-index (omega arith))
    (turn_next _ _ _ _ _ _ _ c.loop-chain.invariant (omega arith) _ (search rules) (rw (next_count c.args.chains.now c.loop-chain.chain-index (omega arith), next_head c.args.chains.now c.loop-chain.chain-index (omega arith)) at c.copy_chain.ensures))
