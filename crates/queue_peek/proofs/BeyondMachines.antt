-- The slots at or above a side's machine count: their words are 0 where the slots are in order. docs/PORT.md names `no_timers` and `no_actions`. Assumes nothing.
use Prim.Native.Nat.{ℕ, ◌+◌, ◌*◌, ◌<◌, ◌≤◌, ◌/◌, ◌%◌}
use mathlib.Core.Path.{◌≡◌, ◌∙◌}
use mathlib.Core.List.{List}
use native.Mathlib.Omega.{arith}
use Rattle.layout.specs.Header.{SlotsOk, machines_of}
use Rattle.layout.specs.Layout.{bank}
use Rattle.layout.proofs.Banks.{bank_at}

module _ (h : List ℕ) (ok : SlotsOk h) where
  module _ (n i : ℕ) (few : n ≤ 1) (past : machines_of h n ≤ i) (last : i < 16) where
    side : (16 * n + i) / 16 ≡ n
    side = omega arith

    machine : (16 * n + i) % 16 ≡ i
    machine = omega arith

    past_slot : machines_of h ((16 * n + i) / 16) ≤ (16 * n + i) % 16
    past_slot = rw (side, machine) past

    pub no_timers : bank 64 32 h (16 * n + i) ≡ 0
    no_timers = bank_at 64 32 h (16 * n + i) (omega arith) ∙ (ok (16 * n + i) (omega arith)).no_timers past_slot

    pub no_actions : bank 96 96 h (3 * (16 * n + i)) ≡ 0
    no_actions = bank_at 96 96 h (3 * (16 * n + i)) (omega arith) ∙ (ok (16 * n + i) (omega arith)).no_actions past_slot
