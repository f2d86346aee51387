-- The delay to what a slot holds, and the least of a side's slots, turn by turn from the last machine's down. Assumes nothing.
use Prim.Native.Nat.{ℕ, zero, suc, ◌-◌, ◌<◌, ◌≤◌}
use mathlib.Core.Path.{◌≡◌, refl, sym, ap, ap₂, ◌∙◌}
use mathlib.Core.Bool.{Bool, true, false}
use mathlib.Core.List.{List, [], ◌∷◌}
use mathlib.Core.Option.{Option as RulesOption, none}
use native.Mathlib.Omega.{arith}
use lib.ListN.{drop, length}
use borrow.Author.Tests.{le-leb, lt-leb, ltb-true, ltb-false}
use Rattle.std.specs.Prelude.{if◌then◌else◌, Option, Some, None}
use Rattle.std.specs.Ordering.{is_lt, nat_cmp}
use Rattle.moment.specs.declared.Moment.{Moment}
use Rattle.moment.specs.declared.Length.{Length}
use Rattle.moment.proofs.Order.{lt_is}
use Rattle.rules.specs.Basics.{Delay, after, absent, earlier}
use Rattle.rules.specs.ChoiceDelays.{slot_delay, least_delay}
use Rattle.queue.specs.Slots.{held_at}
use Rattle.queue.specs.Views.{moment_no}
use Rattle.queue_peek.specs.Decoded.{delay_of}

-- ---- one slot

module _ (o : Option Moment) (t : Moment) where
  pub slot_none : o ≡ None → delay_of None ≡ slot_delay t.0 (moment_no o)
  unfolding delay_of
  slot_none e = ap (λ x. slot_delay t.0 (moment_no x)) (sym e)

  module _ (m : Moment) (eo : o ≡ Some m) (r : Bool) (er : r ≡ is_lt (nat_cmp m.0 t.0)) where
    pub slot_past : r ≡ true → delay_of None ≡ slot_delay t.0 (moment_no o)
    unfolding delay_of
    slot_past p =
        sym (ap (λ b. if b then after (m.0 - t.0) else absent) (lt-leb t.0 m.0 (ltb-true m.0 t.0 (sym (er ∙ lt_is m.0 t.0) ∙ p))))
        ∙ ap (λ x. slot_delay t.0 (moment_no x)) (sym eo)

    pub slot_due : (l : Length) → r ≡ false → l.0 ≡ m.0 - t.0 → delay_of (Some l) ≡ slot_delay t.0 (moment_no o)
    unfolding delay_of
    slot_due l p el =
        ap after el ∙ sym (ap (λ b. if b then after (m.0 - t.0) else absent) (le-leb t.0 m.0 (ltb-false m.0 t.0 (sym (er ∙ lt_is m.0 t.0) ∙ p))))
        ∙ ap (λ x. slot_delay t.0 (moment_no x)) (sym eo)

-- ---- the slots of a side

drop_held : (l : List (RulesOption ℕ)) (m : ℕ) → m < length l → drop m l ≡ held_at l m ∷ drop (suc m) l
drop_held [] m k = absurd (omega arith)
drop_held (o ∷ l) zero k = refl
drop_held (o ∷ l) (suc m) k = drop_held l m (omega arith)

-- nothing is held from m on
least_none : (t : ℕ) (l : List (RulesOption ℕ)) (m : ℕ) → ((i : ℕ) → m ≤ i → held_at l i ≡ none) → least_delay t (drop m l) ≡ absent
least_none t [] zero e = refl
least_none t [] (suc m) e = refl
least_none t (o ∷ l) zero e = ap₂ earlier (ap (slot_delay t) (e 0 (omega arith))) (least_none t l zero (λ i k. e (suc i) (omega arith)))
least_none t (o ∷ l) (suc m) e = least_none t l m (λ i k. e (suc i) (omega arith))

-- before the first turn
pub least_start : (t m : ℕ) (l : List (RulesOption ℕ)) → ((i : ℕ) → m ≤ i → held_at l i ≡ none) → delay_of None ≡ least_delay t (drop m l)
unfolding delay_of
least_start t m l e = sym (least_none t l m e)

-- one turn, down to the slot below m
pub least_turn :
    (t m : ℕ) (l : List (RulesOption ℕ)) (best d next : Option Length) (o : Option Moment) → 0 < m → m ≤ 16 → length l ≡ 16 → delay_of best ≡ least_delay t (drop m l) → moment_no o ≡ held_at l (m - 1)
    → delay_of d ≡ slot_delay t (moment_no o) → delay_of next ≡ earlier (delay_of d) (delay_of best) → delay_of next ≡ least_delay t (drop (m - 1) l)
least_turn t m l best d next o lo hi len eb eo ed en =
    let up : suc (m - 1) ≡ m = omega arith in
    en ∙ ap₂ earlier (ed ∙ ap (slot_delay t) eo) (eb ∙ ap (λ i. least_delay t (drop i l)) (sym up)) ∙ ap (least_delay t) (sym (drop_held l (m - 1) (omega arith)))

-- an absent delay leaves the least as it is
absent_leaves : (d : Delay) → d ≡ earlier absent d
absent_leaves absent = refl
absent_leaves (after n) = refl

-- the turn at a slot that holds nothing
pub least_kept :
    (t m : ℕ) (l : List (RulesOption ℕ)) (best : Option Length) (o : Option Moment) → 0 < m → m ≤ 16 → length l ≡ 16 → delay_of best ≡ least_delay t (drop m l) → moment_no o ≡ held_at l (m - 1)
    → o ≡ None → delay_of best ≡ least_delay t (drop (m - 1) l)
unfolding delay_of
least_kept t m l best o lo hi len eb eo e = least_turn t m l best None best o lo hi len eb eo (ap (λ x. slot_delay t (moment_no x)) (sym e)) (absent_leaves (delay_of best))
