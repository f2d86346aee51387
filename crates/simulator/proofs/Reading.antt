-- What the header's words say of the state: the ended mark, the machines, and what is left of R. Assumes nothing.
use Prim.Native.Nat.{ℕ, ◌+◌, ◌≤◌, ◌<◌}
use mathlib.Core.Path.{◌≡◌, refl, ap}
use mathlib.Core.Bool.{Bool, true, false}
use mathlib.Core.List.{List}
use native.Mathlib.Omega.{arith}
use lib.Dec.{ltb}
use lib.ListN.{get_or}
use borrow.Author.Tests.{ltb-true, ltb-false, lt-ltb, le-ltb}
use Rattle.rules.specs.State.{side, used as used_of, reserved as reserved_of}
use Rattle.event.specs.HandedIn.{side_of}
use Rattle.layout.specs.Header.{Limited}
use Rattle.layout.specs.Accepted.{Good, room}
use Rattle.layout.specs.Layout.{bank, state_from}
use Rattle.queue_event.specs.Tag.{flag}
use Rattle.layout.specs.Changes.{side_no}
use Rattle.layout.proofs.Counts.{used_is}
use Rattle.layout.proofs.ChainWords.{count_le}

module _ (h rs : List ℕ) where
  pub not_ended : get_or h 16 0 ≡ 0 → (state_from h rs).ended ≡ false
  unfolding state_from bank
  not_ended e = ap flag e

  pub machines_are : (c : Bool) → (side (state_from h rs) (side_of c)).fixed.machines ≡ get_or h (8 + side_no (side_of c)) 0
  unfolding state_from bank
  machines_are true = refl
  machines_are false = refl

  pub room_is : (state_from h rs).room ≡ room rs
  unfolding state_from
  room_is = refl

  -- the free records are what the used ones leave
  pub used_free : Good h rs → used_of (state_from h rs) + get_or h 25 0 ≡ room rs
  used_free g = omega (arith, used_is h rs g.counts, count_le h 0 12 (omega arith), g.counts)

  -- and they are enough for the reserve
  pub reserve_kept : Good h rs → reserved_of (state_from h rs) ≤ get_or h 25 0
  reserve_kept g = omega (arith, used_free g, g.reserve)

pub machines_most : (h : List ℕ) (c : Bool) → Limited h → get_or h (8 + side_no (side_of c)) 0 ≤ 16
machines_most h true ok = ok 8 (omega arith)
machines_most h false ok = ok 9 (omega arith)

-- two tests that say the same
pub same_ltb : (a b c d : ℕ) → (a < b → c < d) → (c < d → a < b) → ltb a b ≡ ltb c d
same_ltb a b c d f g = go (ltb c d) refl
  where
    go : (x : Bool) → ltb c d ≡ x → ltb a b ≡ x
    go true e = lt-ltb a b (g (ltb-true c d e))
    go false e = le-ltb a b (not_less (λ l. let z = f l in omega (arith, ltb-false c d e)))
      where
        not_less : (a < b → ⊥) → b ≤ a
        not_less n = omega arith
