-- Numbers 5, 6, 7 and 9 of an event that is handed in. Assumes nothing.
use Prim.Native.Nat.{ℕ, suc, ◌+◌, ◌≤◌, ◌<◌}
use mathlib.Core.Path.{◌≡◌, sym, ap, ap₂, ◌∙◌}
use mathlib.Core.Bool.{Bool, true, false, not, ◌&&◌}
use mathlib.Core.List.{List, [], ◌∷◌}
use mathlib.Core.Option.{none, some}
use native.Mathlib.Omega.{arith}
use lib.Dec.{leb, ltb}
use lib.ListN.{get_or}
use borrow.Author.Tests.{lt-ltb, le-ltb, ltb-false, leb-true, leb-false, not-true, not-false}
use Rattle.rules.specs.Basics.{kind_of}
use Rattle.rules.specs.State.{Event, State, used as used_of, reserved as reserved_of}
use Rattle.rules.specs.Arguments.{EventIn, event_of, push}
use Rattle.rules.specs.Effects.{after_push}
use Rattle.rules.specs.Refusals.{first_of, full, refusal, table}
use Rattle.laws.specs.Counts.{used_push, reserved_push, room_push}
use Rattle.event.specs.HandedIn.{side_of, event_in, has_machine_no}
use Rattle.event.specs.declared.SimEvent.{SimEvent}
use Rattle.layout.specs.Header.{reserved}
use Rattle.layout.specs.Accepted.{Good}
use Rattle.event.specs.Values.{kind_at}
use Rattle.layout.specs.Layout.{state_from}
use Rattle.layout.specs.Changes.{side_no}
use Rattle.event.proofs.Numbers.{kind_some}
use Rattle.layout.proofs.Counts.{reserved_is}
use Rattle.simulator.specs.Numbers.{EventFree, event_rows, LacksMachine, EventNumber, CallNumber}
use Rattle.simulator.proofs.Rows.{front_yes, front_no, all_false, going}
use Rattle.simulator.proofs.Reading.{not_ended, machines_are, room_is, used_free, same_ltb}

-- ---- 5

module _ (h : List ℕ) (e : SimEvent) (b : Bool) (eb : b ≡ has_machine_no e.kind.0) where
  pub lacks_some : b ≡ true → (m : ℕ) → m ≡ get_or h (8 + side_no (side_of e.client)) 0 → LacksMachine h (event_in e) (leb m e.machine)
  unfolding has_machine_no
  lacks_some t m em rs = ap₂ (λ (x : Bool) (y : ℕ). x && leb y e.machine) (sym t ∙ eb) (em ∙ sym (machines_are h rs e.client))

-- ---- 5, 6, 7

pub too_large : (a limit : ℕ) (f : Bool) → f ≡ leb a limit → not f ≡ true → true ≡ ltb limit a
too_large a limit f e n = sym (lt-ltb limit a (leb-false a limit (sym e ∙ not-true f n)))

pub small_enough : (a limit : ℕ) (f : Bool) → f ≡ leb a limit → not f ≡ false → false ≡ ltb limit a
small_enough a limit f e n = sym (le-ltb limit a (leb-true a limit (sym e ∙ not-false f n)))

-- what it says that no row holds, on any state
pub event_free : (s : State) (r : EventIn) → none ≡ first_of (event_rows s r) → EventFree s r
event_free s r z =
    let all = all_false (event_rows s r) z in
    record { machine = all.0; kind = ltb-false 9 r.kind all.1.0; large = all.1.1.0 }

-- ---- 9

module _ (h rs : List ℕ) (g : Good h rs) (r : EventIn) where
  -- a push takes one free record
  pub full_push : r.kind ≤ 9 → full (after_push (state_from h rs) r (kind_of r.kind)) ≡ ltb (get_or h 25 0) (suc (reserved h))
  full_push l =
      ap (λ o. full (after_push (state_from h rs) r o)) (kind_some r.kind (omega arith))
      ∙ (λ d. ltb (room_push s e d) (used_push s e d + reserved_push s e d))
      ∙ same_ltb s.room (suc (used_of s) + reserved_of s) (get_or h 25 0) (suc (reserved h)) (λ p. omega (arith, used_free h rs g, room_is h rs, reserved_is h rs)) (λ p. omega (arith, used_free h rs g, room_is h rs, reserved_is h rs))
    where
      s : State
      s = state_from h rs

      e : Event
      e = event_of r (kind_at r.kind)

module _ (h : List ℕ) (r : EventIn) (go : get_or h 16 0 ≡ 0) where
  pub push_n : (n : ℕ) → EventNumber h r (some n) → CallNumber h (push r) (some n)
  unfolding table
  push_n n en rs g =
      front_yes (event_rows (state_from h rs) r) ((9, full (after_push (state_from h rs) r (kind_of r.kind))) ∷ []) n (en rs)
      ∙ going (state_from h rs) (push r) (not_ended h rs go)

  module _ (en : EventNumber h r none) (all : ℕ) (ea : all ≡ reserved h) where
    last : (b : Bool) → ltb (get_or h 25 0) (suc (reserved h)) ≡ b → (rs : List ℕ) → Good h rs → first_of ((9, b) ∷ []) ≡ refusal (state_from h rs) (push r)
    unfolding table
    last b e rs g =
        ap (λ (x : Bool). first_of ((9, x) ∷ [])) (sym (full_push h rs g r (event_free (state_from h rs) r (en rs)).kind ∙ e))
        ∙ front_no (event_rows (state_from h rs) r) ((9, full (after_push (state_from h rs) r (kind_of r.kind))) ∷ []) (en rs)
        ∙ going (state_from h rs) (push r) (not_ended h rs go)

    pub push_9 : (free : ℕ) → free ≡ get_or h 25 0 → free < all + 1 → CallNumber h (push r) (some 9)
    push_9 free ef l rs g = last true (lt-ltb (get_or h 25 0) (suc (reserved h)) (omega arith)) rs g

    pub push_0 : (free : ℕ) → free ≡ get_or h 25 0 → all + 1 ≤ free → CallNumber h (push r) none
    push_0 free ef l rs g = last false (le-ltb (get_or h 25 0) (suc (reserved h)) (omega arith)) rs g
