-- The numbers of setting a timer or an action, test by test. Assumes nothing.
use Prim.Native.Nat.{ℕ, zero, suc, ◌+◌, ◌*◌, ◌≤◌, ◌<◌}
use mathlib.Core.Path.{◌≡◌, refl, sym, ap, ◌∙◌}
use mathlib.Core.Bool.{Bool, true, false, not, ◌||◌, false≢true}
use mathlib.Core.List.{List, [], ◌∷◌}
use mathlib.Core.Option.{Option, none, some}
use native.Mathlib.Omega.{arith}
use lib.Dec.{leb, ltb}
use lib.ListN.{get_or}
use borrow.Author.Tests.{le-leb, lt-leb, leb-false, not-true, not-false}
use Rattle.rules.specs.Basics.{is_some}
use Rattle.rules.specs.Limits.{moment_limit, duration_limit}
use Rattle.rules.specs.Arguments.{ActionIn, action_kind_of, set_action, set_timer}
use Rattle.rules.specs.Effects.{after_set_action, timer_set}
use Rattle.rules.specs.Refusals.{first_of, action_too_large, full, no_machine, refusal, table}
use Rattle.event.specs.HandedIn.{side_of, is_action_no}
use Rattle.layout.specs.Header.{Limited}
use Rattle.layout.specs.Accepted.{Good}
use Rattle.layout.specs.Layout.{state_from}
use Rattle.layout.specs.Changes.{side_no}
use Rattle.simulator.specs.Numbers.{slot_in, slot_rows, no_room, kept_no, SlotNumber, CallNumber}
use Rattle.simulator.proofs.Rows.{front_yes, front_no, all_false, going}
use Rattle.simulator.proofs.Reading.{not_ended, machines_are, machines_most}
use Rattle.simulator.proofs.EventNumbers.{too_large, small_enough}
use Rattle.simulator.proofs.SlotRoom.{full_timer, full_action}

-- ---- 5

module _ (h : List ℕ) (c : Bool) (machine m : ℕ) (em : m ≡ get_or h (8 + side_no (side_of c)) 0) where
  lacks : (rs : List ℕ) → leb m machine ≡ no_machine (state_from h rs) (slot_in c machine)
  lacks rs = ap (λ x. leb x machine) (em ∙ sym (machines_are h rs c))

  pub slot_5 : m ≤ machine → SlotNumber h (slot_in c machine) (some 5)
  slot_5 l rs = ap (λ (b : Bool). first_of ((5, b) ∷ [])) (sym (le-leb m machine l) ∙ lacks rs)

  pub slot_0 : machine < m → SlotNumber h (slot_in c machine) none
  slot_0 l rs = ap (λ (b : Bool). first_of ((5, b) ∷ [])) (sym (lt-leb m machine l) ∙ lacks rs)

-- a machine that its side has is one of sixteen
pub slot_has : (h rs : List ℕ) (c : Bool) (machine : ℕ) → no_machine (state_from h rs) (slot_in c machine) ≡ false → machine < get_or h (8 + side_no (side_of c)) 0
slot_has h rs c machine e = leb-false (get_or h (8 + side_no (side_of c)) 0) machine (sym (ap (λ x. leb x machine) (machines_are h rs c)) ∙ e)

-- the number of a slot that is known is that of the one handed in
pub number_is : (n m j : ℕ) → (j ≡ n) × (j < 32) → (n ≡ m) × (n < 32) → (j ≡ m) × (j < 32)
number_is n m j a b = (a.0 ∙ b.0, a.1)

module _ (h : List ℕ) (c : Bool) (machine : ℕ) (go : get_or h 16 0 ≡ 0) where
  -- ---- setting: 5

  pub timer_n : (moment n : ℕ) → SlotNumber h (slot_in c machine) (some n) → CallNumber h (set_timer (slot_in c machine) moment) (some n)
  unfolding table
  timer_n moment n en rs g =
      front_yes (slot_rows (state_from h rs) (slot_in c machine)) ((7, ltb moment_limit moment) ∷ (9, full (timer_set (state_from h rs) (slot_in c machine) moment)) ∷ []) n (en rs)
      ∙ going (state_from h rs) (set_timer (slot_in c machine) moment) (not_ended h rs go)

  pub action_n : (r : ActionIn) (n : ℕ) → SlotNumber h (slot_in c machine) (some n) → CallNumber h (set_action (slot_in c machine) r) (some n)
  unfolding table
  action_n r n en rs g =
      front_yes (slot_rows (state_from h rs) (slot_in c machine))
      ((6, not (is_some (action_kind_of r.kind))) ∷ (7, action_too_large r (action_kind_of r.kind)) ∷ (9, full (after_set_action (state_from h rs) (slot_in c machine) r (action_kind_of r.kind))) ∷ [])
      n (en rs)
      ∙ going (state_from h rs) (set_action (slot_in c machine) r) (not_ended h rs go)

  module _ (en : SlotNumber h (slot_in c machine) none) where
    has : (rs : List ℕ) → no_machine (state_from h rs) (slot_in c machine) ≡ false
    has rs = (all_false (slot_rows (state_from h rs) (slot_in c machine)) (en rs)).0

    pub slot_small : Limited h → machine < 16
    slot_small lim = omega (arith, slot_has h [] c machine (has []), machines_most h c lim)

    -- ---- a timer: 7 and 9

    abbrev by_timer : Bool → Bool → Option ℕ
    by_timer t7 t9 = first_of ((7, t7) ∷ (9, t9) ∷ [])

    timer_rest : (moment : ℕ) (rs : List ℕ) → by_timer (ltb moment_limit moment) (full (timer_set (state_from h rs) (slot_in c machine) moment)) ≡ refusal (state_from h rs) (set_timer (slot_in c machine) moment)
    unfolding table
    timer_rest moment rs =
        front_no (slot_rows (state_from h rs) (slot_in c machine)) ((7, ltb moment_limit moment) ∷ (9, full (timer_set (state_from h rs) (slot_in c machine) moment)) ∷ []) (en rs)
        ∙ going (state_from h rs) (set_timer (slot_in c machine) moment) (not_ended h rs go)

    module _ (moment : ℕ) (f : Bool) (ef : f ≡ leb moment moment_limit) where
      pub timer_7 : not f ≡ true → CallNumber h (set_timer (slot_in c machine) moment) (some 7)
      timer_7 l rs g = (λ d. by_timer (too_large moment moment_limit f ef l d) (full (timer_set (state_from h rs) (slot_in c machine) moment))) ∙ timer_rest moment rs

      module _ (l : not f ≡ false) (j : ℕ) (ej : (j ≡ 16 * side_no (side_of c) + machine) × (j < 32)) (b : Bool) (eb : b ≡ no_room h (get_or h (64 + j) 0) 1) where
        timer_last : (rs : List ℕ) → Good h rs → by_timer false b ≡ refusal (state_from h rs) (set_timer (slot_in c machine) moment)
        timer_last rs g = (λ d. by_timer (small_enough moment moment_limit f ef l d) ((eb ∙ sym (full_timer h rs c machine j (slot_small g.limits) ej.0 g moment)) d)) ∙ timer_rest moment rs

        pub timer_9 : b ≡ true → CallNumber h (set_timer (slot_in c machine) moment) (some 9)
        timer_9 e rs g = ap (by_timer false) (sym e) ∙ timer_last rs g

        pub timer_0 : b ≡ false → CallNumber h (set_timer (slot_in c machine) moment) none
        timer_0 e rs g = ap (by_timer false) (sym e) ∙ timer_last rs g

    -- ---- an action: 6, 7 and 9

    abbrev by_action : Bool → Bool → Bool → Option ℕ
    by_action t6 t7 t9 = first_of ((6, t6) ∷ (7, t7) ∷ (9, t9) ∷ [])

    module _ (r : ActionIn) where
      action_rest :
          (rs : List ℕ)
          → by_action (not (is_some (action_kind_of r.kind))) (action_too_large r (action_kind_of r.kind)) (full (after_set_action (state_from h rs) (slot_in c machine) r (action_kind_of r.kind))) ≡ refusal (state_from h rs) (set_action (slot_in c machine) r)
      unfolding table
      action_rest rs =
          front_no (slot_rows (state_from h rs) (slot_in c machine))
          ((6, not (is_some (action_kind_of r.kind))) ∷ (7, action_too_large r (action_kind_of r.kind)) ∷ (9, full (after_set_action (state_from h rs) (slot_in c machine) r (action_kind_of r.kind))) ∷ [])
          (en rs)
          ∙ going (state_from h rs) (set_action (slot_in c machine) r) (not_ended h rs go)

      -- a known kind: its duration as it is kept, and the slot that it takes
      large_known : (k : ℕ) → is_action_no k ≡ true → action_too_large r (action_kind_of k) ≡ (ltb moment_limit r.moment || ltb duration_limit (kept_no k r.duration))
      unfolding is_action_no
      large_known zero e = absurd (false≢true e)
      large_known (suc zero) e = refl
      large_known (suc (suc zero)) e = refl
      large_known (suc (suc (suc k))) e = absurd (false≢true e)

      full_known :
          (rs : List ℕ) → Good h rs → (j : ℕ) → j ≡ 16 * side_no (side_of c) + machine → (k : ℕ) → is_action_no k ≡ true
          → full (after_set_action (state_from h rs) (slot_in c machine) r (action_kind_of k)) ≡ no_room h (get_or h (96 + 3 * j) 0) 4
      unfolding is_action_no
      full_known rs g j ej zero e = absurd (false≢true e)
      full_known rs g j ej (suc zero) e = full_action h rs c machine j (slot_small g.limits) ej g _
      full_known rs g j ej (suc (suc zero)) e = full_action h rs c machine j (slot_small g.limits) ej g _
      full_known rs g j ej (suc (suc (suc k))) e = absurd (false≢true e)

      module _ (a : Bool) (ea : a ≡ is_action_no r.kind) where
        pub action_6 : not a ≡ true → CallNumber h (set_action (slot_in c machine) r) (some 6)
        unfolding is_action_no
        action_6 l rs g =
            (λ d. by_action (not ((sym (not-true a l) ∙ ea) d)) (action_too_large r (action_kind_of r.kind)) (full (after_set_action (state_from h rs) (slot_in c machine) r (action_kind_of r.kind))))
            ∙ action_rest rs

        module _ (l : not a ≡ false) (f : Bool) (ef : f ≡ leb r.moment moment_limit) where
          known : is_action_no r.kind ≡ true
          known = sym ea ∙ not-false a l

          e6 : false ≡ not (is_some (action_kind_of r.kind))
          unfolding is_action_no
          e6 = ap not (sym known)

          pub action_7 : not f ≡ true → CallNumber h (set_action (slot_in c machine) r) (some 7)
          action_7 m rs g =
              (λ d. by_action (e6 d) ((ap (λ (x : Bool). x || ltb duration_limit (kept_no r.kind r.duration)) (too_large r.moment moment_limit f ef m) ∙ sym (large_known r.kind known)) d) (full (after_set_action (state_from h rs) (slot_in c machine) r (action_kind_of r.kind))))
              ∙ action_rest rs

          module _ (m : not f ≡ false) (kept : ℕ) (ek : kept ≡ kept_no r.kind r.duration) (q : Bool) (eq : q ≡ leb kept duration_limit) where
            e7 : (x : Bool) → x ≡ ltb duration_limit kept → x ≡ action_too_large r (action_kind_of r.kind)
            e7 x e = (λ d. small_enough r.moment moment_limit f ef m d || (e ∙ ap (λ y. ltb duration_limit y) ek) d) ∙ sym (large_known r.kind known)

            pub action_7_duration : not q ≡ true → CallNumber h (set_action (slot_in c machine) r) (some 7)
            action_7_duration p rs g =
                (λ d. by_action (e6 d) (e7 true (too_large kept duration_limit q eq p) d) (full (after_set_action (state_from h rs) (slot_in c machine) r (action_kind_of r.kind))))
                ∙ action_rest rs

            module _ (p : not q ≡ false) (j : ℕ) (ej : (j ≡ 16 * side_no (side_of c) + machine) × (j < 32)) (b : Bool) (eb : b ≡ no_room h (get_or h (96 + 3 * j) 0) 4) where
              action_last : (rs : List ℕ) → Good h rs → by_action false false b ≡ refusal (state_from h rs) (set_action (slot_in c machine) r)
              action_last rs g =
                  (λ d. by_action (e6 d) (e7 false (small_enough kept duration_limit q eq p) d) ((eb ∙ sym (full_known rs g j ej.0 r.kind known)) d))
                  ∙ action_rest rs

              pub action_9 : b ≡ true → CallNumber h (set_action (slot_in c machine) r) (some 9)
              action_9 e rs g = ap (by_action false false) (sym e) ∙ action_last rs g

              pub action_0 : b ≡ false → CallNumber h (set_action (slot_in c machine) r) none
              action_0 e rs g = ap (by_action false false) (sym e) ∙ action_last rs g
