-- The slots of a side looked through for a moment: the lowest machine, the client first. Assumes nothing.
use Prim.Native.Nat.{ℕ, zero, suc, ◌<◌, ◌≤◌}
use mathlib.Core.Path.{◌≡◌, refl, sym, ap, ◌∙◌}
use mathlib.Core.Bool.{Bool, true, false}
use mathlib.Core.List.{List, [], ◌∷◌}
use mathlib.Core.Option as RulesOption
use mathlib.Core.Option.{Option as RulesOption, none, some}
use native.Mathlib.Omega.{arith}
use lib.Dec.{eqb, ltb}
use borrow.Author.Tests.{ltb-true, ltb-false}
use Rattle.std.specs.Prelude.{if◌then◌else◌, Option, Some, None}
use Rattle.rules.specs.State.{SideState, State}
use Rattle.rules.specs.ChoiceRound.{slot_at, slot_of}
use Rattle.queue.specs.Slots.{held_at}
use Rattle.queue.specs.Views.{moment_no}
use Rattle.moment.specs.declared.Moment.{Moment}
use Rattle.queue.specs.declared.header.Slot.{Slot}
use Rattle.candidate.specs.Candidates.{machine_slot}
use Rattle.candidate.specs.Promises.{has_moment, found_slot, due_of, DueWhen, DueIn}

-- ---- whether a slot has the moment

module _ (o : Option Moment) (t : Moment) where
  pub has_none : o ≡ None → false ≡ has_moment t.0 (moment_no o)
  has_none e = ap (λ x. has_moment t.0 (moment_no x)) (sym e)

  pub has_some : (m : Moment) (r : Bool) → o ≡ Some m → r ≡ eqb m.0 t.0 → r ≡ has_moment t.0 (moment_no o)
  has_some m r e er = er ∙ ap (λ x. has_moment t.0 (moment_no x)) (sym e)

-- ---- the lowest

slot_step : (t : ℕ) (o : RulesOption ℕ) (l : List (RulesOption ℕ)) → has_moment t o ≡ false → slot_at t (o ∷ l) ≡ RulesOption.map suc (slot_at t l)
slot_step t none l e = refl
slot_step t (some u) l e = ap (λ (b : Bool). if b then some 0 else RulesOption.map suc (slot_at t l)) e

slot_here : (t : ℕ) (o : RulesOption ℕ) (l : List (RulesOption ℕ)) → has_moment t o ≡ true → slot_at t (o ∷ l) ≡ some 0
slot_here t none l e = let z : ◌≡◌ {A = ℕ} 0 1 = cc in absurd (omega arith)
slot_here t (some u) l e = ap (λ (b : Bool). if b then some 0 else RulesOption.map suc (slot_at t l)) e

slot_first : (l : List (RulesOption ℕ)) (t m : ℕ) → ((i : ℕ) → i < m → has_moment t (held_at l i) ≡ false) → has_moment t (held_at l m) ≡ true → slot_at t l ≡ some m
slot_first [] t m b e = let z : ◌≡◌ {A = ℕ} 0 1 = cc in absurd (omega arith)
slot_first (o ∷ l) t zero b e = slot_here t o l e
slot_first (o ∷ l) t (suc m) b e = slot_step t o l (b 0 (omega arith)) ∙ ap (RulesOption.map suc) (slot_first l t m (λ i k. b (suc i) (omega arith)) e)

slot_none : (l : List (RulesOption ℕ)) (t : ℕ) → ((i : ℕ) → has_moment t (held_at l i) ≡ false) → slot_at t l ≡ none
slot_none [] t b = refl
slot_none (o ∷ l) t b = slot_step t o l (b 0) ∙ ap (RulesOption.map suc) (slot_none l t (λ i. b (suc i)))

-- no slot below m has the moment
pub record Missed (l : List (RulesOption ℕ)) (t m : ℕ) : Type 0 where
  pub below : (i : ℕ) → i < m → has_moment t (held_at l i) ≡ false

module _ (l : List (RulesOption ℕ)) (t m : ℕ) (b : Bool) (p : Missed l t m) where
  module _ (o : Option Moment) (r : Bool) (eo : moment_no o ≡ held_at l m) (er : r ≡ has_moment t (moment_no o)) where
    pub machine_found : (k : m < 16) → r ≡ true → found_slot (Some (record { client = b; machine = m; known = k })) ≡ RulesOption.map (machine_slot b) (slot_at t l)
    unfolding found_slot
    machine_found k z = ap (RulesOption.map (machine_slot b)) (sym (slot_first l t m p.below (ap (has_moment t) (sym eo) ∙ sym er ∙ z)))

  -- from m on none holds anything
  pub machine_nowhere : (n : ℕ) → n ≤ m → ((i : ℕ) → n ≤ i → held_at l i ≡ none) → found_slot None ≡ RulesOption.map (machine_slot b) (slot_at t l)
  unfolding found_slot
  machine_nowhere n k e = ap (RulesOption.map (machine_slot b)) (sym (slot_none l t all))
    where
      all : (i : ℕ) → has_moment t (held_at l i) ≡ false
      all i = go (ltb i m) refl
        where
          go : (r : Bool) → ltb i m ≡ r → has_moment t (held_at l i) ≡ false
          go true q = p.below i (ltb-true i m q)
          go false q = ap (has_moment t) (e i (omega (arith, ltb-false i m q)))

-- ---- the client first

slot_is : (x y : RulesOption ℕ) → RulesOption.or_else (RulesOption.map (machine_slot true) x) (RulesOption.map (machine_slot false) y) ≡ slot_of x y
unfolding RulesOption.or_else
slot_is (some m) y = refl
slot_is none (some m) = refl
slot_is none none = refl

module _
    (f : SideState → List (RulesOption ℕ)) (s : State) (t : Moment) (x : Option Slot) (ex : found_slot x ≡ RulesOption.map (machine_slot true) (slot_at t.0 (f s.client))) where
  pub due_client : (z : Slot) → x ≡ Some z → DueIn f s t.0 (Some (record { slot = z; moment = t }))
  unfolding found_slot due_of DueWhen RulesOption.or_else
  due_client z e = record {
    when = refl;
    is =
        ap (λ o. RulesOption.or_else o (RulesOption.map (machine_slot false) (slot_at t.0 (f s.server)))) (ap found_slot (sym e) ∙ ex)
        ∙ slot_is (slot_at t.0 (f s.client)) (slot_at t.0 (f s.server));
  }

  module _ (ne : x ≡ None) (y : Option Slot) (ey : found_slot y ≡ RulesOption.map (machine_slot false) (slot_at t.0 (f s.server))) where
    last : found_slot y ≡ slot_of (slot_at t.0 (f s.client)) (slot_at t.0 (f s.server))
    unfolding found_slot RulesOption.or_else
    last = (λ d. RulesOption.or_else ((ap found_slot (sym ne) ∙ ex) d) (ey d)) ∙ slot_is (slot_at t.0 (f s.client)) (slot_at t.0 (f s.server))

    pub due_server : (z : Slot) → y ≡ Some z → DueIn f s t.0 (Some (record { slot = z; moment = t }))
    unfolding found_slot due_of DueWhen
    due_server z e = record { when = refl; is = ap found_slot (sym e) ∙ last }

    pub due_none : y ≡ None → DueIn f s t.0 None
    unfolding found_slot due_of DueWhen
    due_none e = record { when = tt; is = ap found_slot (sym e) ∙ last }
