-- `packing::chain::copy_chain` meets its contract. Assumes nothing.
use Prim.Native.Nat.{◌+◌}
use native.Mathlib.Omega.{arith}
use mathlib.Core.Path.{refl, ap}
use mathlib.Core.List.{[]}
use Rattle.packing.proofs.Copied.{copy_start, copy_end, copy_in, copy_turn}
use Rattle.packing.proofs.chain.copy_chain.Goals as goal

pub loop-i-init : goal.loop-i-init
loop-i-init c =
    rw (c.into_iter-i-iterator.ensures.into_iter_gives, c.enumerate-i-items.ensures.source, c.enumerate-i-items.ensures.count) (copy_start _ _ _ _ _ _ c.requires.one c.requires.room refl)

pub loop-i-preserved : goal.loop-i-preserved
loop-i-preserved c =
    let s = c.in-Some.ensures.steps in
    let at = ap (λ i. c.args.place + i) s.1 in
    copy_turn _ _ _ _ _ _ _ _ c.loop-i.invariant _ _ _ s.0.0 s.0.1 at _ _ _ c.link.ensures c.copy_record.ensures (omega (arith, s.2))

pub copy_record-requires : goal.copy_record-requires
copy_record-requires c =
    let s = c.in-Some.ensures.steps in
    copy_in _ _ _ _ _ _ _ _ c.loop-i.invariant _ _ _ s.0.0 s.0.1 (ap (λ i. c.args.place + i) s.1)

pub returns : goal.returns
returns c = copy_end _ _ _ _ _ [] _ 0 c.loop-i.invariant c.in-None.ensures.steps.0.0
