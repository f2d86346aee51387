-- `call_words::names::named` meets its contract. Assumes nothing.
use Prim.Native.Nat.{◌≤◌}
use native.Mathlib.Omega.{arith}
use mathlib.Core.Path.{refl}
use Rattle.call_words.specs.Names.{named, named_slot, named_words, named_second}
use Rattle.call_words.proofs.NameLaws.{row_passed, none_found}
use Rattle.call_words.proofs.names.named.Goals as goal

pub loop-row-init : goal.loop-row-init
unfolding named named_slot named_words named_second
loop-row-init c = refl

pub loop-row-preserved : goal.loop-row-preserved
loop-row-preserved c = row_passed _ _ _ _ c.loop-row.invariant _ _ c.loop-row-test.true c.eq.ensures c.if-eq.false

pub returns : goal.returns
returns c =
    let last : 17 ≤ c.loop-row.row-index = omega arith in
    none_found _ _ _ _ c.loop-row.invariant last
