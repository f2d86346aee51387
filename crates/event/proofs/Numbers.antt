-- Laws of the numbers of kinds: which are a kind's, which have a machine, and which actions a slot may hold. Assumes nothing.
use Prim.Native.Nat.{ℕ, zero, suc, ◌-◌, ◌<◌, ◌≤◌}
use mathlib.Core.Path.{◌≡◌, refl, ap, subst, ◌∙◌}
use mathlib.Core.Bool.{Bool, true, false, ◌||◌}
use mathlib.Core.Option.{none, some, map}
use native.Mathlib.Omega.{arith}
use Rattle.std.proofs.lemmas.Bool.Decides.{nat_tests}
use lib.Dec.{ltb, eqb}
use borrow.Author.Tests.{ltb-true, ltb-false}
use Rattle.rules.specs.Basics.{kind_of}
use Rattle.event.specs.declared.SimEvent.{SimEvent}
use Rattle.event.specs.Values.{kind_at, event_value, known_event, with_kind}
use Rattle.event.specs.HandedIn.{has_machine_no, is_action_no}

-- by the ten kinds
pub by_kind : (P : ℕ → Type 0) → P 0 → P 1 → P 2 → P 3 → P 4 → P 5 → P 6 → P 7 → P 8 → P 9 → (n : ℕ) → n < 10 → P n
by_kind P a b c d e f g h i j zero l = a
by_kind P a b c d e f g h i j (suc zero) l = b
by_kind P a b c d e f g h i j (suc (suc zero)) l = c
by_kind P a b c d e f g h i j (suc (suc (suc zero))) l = d
by_kind P a b c d e f g h i j (suc (suc (suc (suc zero)))) l = e
by_kind P a b c d e f g h i j (suc (suc (suc (suc (suc zero))))) l = f
by_kind P a b c d e f g h i j (suc (suc (suc (suc (suc (suc zero)))))) l = g
by_kind P a b c d e f g h i j (suc (suc (suc (suc (suc (suc (suc zero))))))) l = h
by_kind P a b c d e f g h i j (suc (suc (suc (suc (suc (suc (suc (suc zero)))))))) l = i
by_kind P a b c d e f g h i j (suc (suc (suc (suc (suc (suc (suc (suc (suc zero))))))))) l = j
by_kind P a b c d e f g h i j (suc (suc (suc (suc (suc (suc (suc (suc (suc (suc n)))))))))) l = absurd (omega arith)

-- up to 9 a number is a kind's, and its event is the one that it is read as
pub kind_some : (n : ℕ) → n ≤ 9 → kind_of n ≡ some (kind_at n)
kind_some n l = by_kind (λ n. kind_of n ≡ some (kind_at n)) refl refl refl refl refl refl refl refl refl refl n (omega arith)

pub event_known : (e : SimEvent) → e.kind.0 ≤ 9 → known_event e ≡ some (event_value e)
unfolding known_event
event_known e l = ap (map (with_kind e)) (kind_some e.kind.0 l)

-- above it is none
pub kind_above : (n : ℕ) → 9 < n → kind_of n ≡ none
kind_above n l = subst (λ x. kind_of x ≡ none) past refl
  where
    past : suc (suc (suc (suc (suc (suc (suc (suc (suc (suc (n - 10)))))))))) ≡ n
    past = omega arith

pub event_unknown : (e : SimEvent) → 9 < e.kind.0 → known_event e ≡ none
unfolding known_event
event_unknown e l = ap (map (with_kind e)) (kind_above e.kind.0 l)

-- no number above 9 has a machine
pub machine_above : (n : ℕ) → 10 ≤ n → has_machine_no n ≡ false
unfolding has_machine_no
machine_above n l = subst (λ x. has_machine_no x ≡ false) past refl
  where
    past : suc (suc (suc (suc (suc (suc (suc (suc (suc (suc (n - 10)))))))))) ≡ n
    past = omega arith

-- kinds 2, 6, 8 and 9 have one, and no other number has
pub machine_is : (n : ℕ) → has_machine_no n ≡ (eqb n 2 || (eqb n 6 || (eqb n 8 || eqb n 9)))
unfolding has_machine_no
machine_is n = go (ltb n 10) refl
  where
    go : (t : Bool) → ltb n 10 ≡ t → has_machine_no n ≡ (eqb n 2 || (eqb n 6 || (eqb n 8 || eqb n 9)))
    go true e = by_kind (λ n. has_machine_no n ≡ (eqb n 2 || (eqb n 6 || (eqb n 8 || eqb n 9)))) refl refl refl refl refl refl refl refl refl refl n (ltb-true n 10 e)
    go false e = let l : 10 ≤ n = ltb-false n 10 e in machine_above n l ∙ grind (arith, nat_tests)

-- the actions of a slot are 1 and 2, and no other number is one
pub action_is : (n : ℕ) → is_action_no n ≡ (eqb n 1 || eqb n 2)
unfolding is_action_no
action_is zero = refl
action_is (suc zero) = refl
action_is (suc (suc zero)) = refl
action_is (suc (suc (suc n))) = grind (arith, nat_tests)
