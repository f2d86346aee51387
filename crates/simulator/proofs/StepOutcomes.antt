-- The promise of a network step, from its rows up to 8 and from what the step leaves. Assumes nothing.
use Prim.Native.Nat.{ℕ, ◌≤◌}
use mathlib.Core.Path.{◌≡◌, refl, sym, ap, subst⁻¹, ◌∙◌}
use mathlib.Core.Bool.{Bool, true, false, not, ◌&&◌, ◌||◌}
use mathlib.Core.List.{List, [], ◌∷◌}
use mathlib.Core.Logic.{inl, inr}
use mathlib.Core.Option.{Option, none, some, none-ne-some}
use lib.Dec.{ltb}
use borrow.Author.Tests.{eq-eqb, ltb-false}
use Rattle.std.specs.Prelude.{Result, if◌then◌else◌}
use Rattle.rules.specs.Basics.{kind_of}
use Rattle.rules.specs.Limits.{moment_limit, delay_limit}
use Rattle.rules.specs.Choice.{Answer, refused}
use Rattle.rules.specs.Arguments.{EventIn, sim_network_stack}
use Rattle.rules.specs.Effects.{after_step}
use Rattle.rules.specs.Calls.{work}
use Rattle.rules.specs.Refusals.{first_of, full, refusal, delay_above_moment}
use Rattle.laws.specs.Branches.{neither_true}
use Rattle.event.specs.HandedIn.{event_in}
use Rattle.event.specs.Answers.{step_of}
use Rattle.event.specs.declared.SimEvent.{SimEvent}
use Rattle.event.specs.declared.answer.Refusal.{Refusal}
use Rattle.event.specs.declared.answer.Stepped.{Stepped}
use Rattle.layout.specs.Accepted.{Accepted}
use Rattle.layout.specs.Layout.{state_of}
use Rattle.network_stack.specs.Steps.{MayStep, StepDone}
use Rattle.simulator.specs.Outcome.{Outcome}
use Rattle.simulator.specs.StepNumbers.{step_rows, UpToEight}
use Rattle.simulator.proofs.Rows.{front_no, all_false}
use Rattle.simulator.proofs.StepRows.{nine_of, whole}
use Rattle.simulator.proofs.Working.{outcome_n, outcome_done}

-- ---- what it says that no row up to 8 holds

none_case : (m : Option ℕ) (b : Bool) → ◌≡◌ {A = Option ℕ} none (if b then some 3 else m) → (b ≡ false) × (none ≡ m)
none_case m true e = absurd (none-ne-some 3 e)
none_case m false e = (refl, e)

pub record Free (w : List ℕ) (now : ℕ) (r : EventIn) : Type 0 where
  pub accepted : Accepted w
  pub going : (state_of w).ended ≡ false
  pub none_holds : none ≡ first_of (step_rows (state_of w) now r)

pub step_free : (w : List ℕ) (now : ℕ) (r : EventIn) → UpToEight w now r none → Free w now r
step_free w now r (inl (bad, e)) = absurd (none-ne-some 1 e)
step_free w now r (inr (inl (size, (bad, e)))) = absurd (none-ne-some 2 e)
step_free w now r (inr (inr (acc, e))) =
    let k = none_case (first_of (step_rows (state_of w) now r)) (state_of w).ended e in record { accepted = acc; going = k.0; none_holds = k.1 }

no_delay : (r : EventIn) → delay_above_moment r ≡ false → r.kind ≡ 0 → r.padding ≡ false → r.delay ≤ r.moment
no_delay r e k p = ltb-false r.moment r.delay ((λ d. sym (eq-eqb r.kind 0 k) d && not (sym p d) && ltb r.moment r.delay) ∙ e)

pub step_may : (w : List ℕ) (now : ℕ) (e : SimEvent) → UpToEight w now (event_in e) none → MayStep w e
step_may w now e u =
    let f = step_free w now (event_in e) u in
    let all = all_false (step_rows (state_of w) now (event_in e)) f.none_holds in
    let seven = neither_true (ltb moment_limit now) (ltb moment_limit e.moment.0 || ltb delay_limit e.delay.0) all.1.1.0 in
    let large = neither_true (ltb moment_limit e.moment.0) (ltb delay_limit e.delay.0) seven.1 in
    record {
      accepted = f.accepted;
      handed =
          record {
            moment = ltb-false moment_limit e.moment.0 large.0;
            delay = ltb-false delay_limit e.delay.0 large.1;
            back = no_delay (event_in e) all.1.1.1.0;
          };
    }

-- ---- the promise

module _ (w : List ℕ) (now : ℕ) (e : SimEvent) (u : UpToEight w now (event_in e) none) (a : Result Stepped Refusal) (left : List ℕ) (done : StepDone w now e a left) where
  abbrev is_full : Bool
  is_full = full (after_step (state_of w) now (event_in e) (kind_of e.kind.0)).state

  last : (b : Bool) → is_full ≡ b → (if b then some 9 else none) ≡ refusal (state_of w) (sim_network_stack now (event_in e))
  last b q =
      let f = step_free w now (event_in e) u in
      nine b q
      ∙ front_no (step_rows (state_of w) now (event_in e)) (nine_of (state_of w) now (event_in e)) f.none_holds
      ∙ whole (state_of w) now (event_in e) f.going
    where
      nine : (b : Bool) → is_full ≡ b → (if b then some 9 else none) ≡ first_of (nine_of (state_of w) now (event_in e))
      nine true q = ap (λ (x : Bool). first_of ((9, x) ∷ [])) (sym q)
      nine false q = ap (λ (x : Bool). first_of ((9, x) ∷ [])) (sym q)

  by_room : (b : Bool) → is_full ≡ b → Outcome w (sim_network_stack now (event_in e)) (step_of a) left
  unfolding work
  by_room true q =
      let f = step_free w now (event_in e) u in
      let d = done.nine q in
      subst⁻¹ (λ (x : Answer). Outcome w (sim_network_stack now (event_in e)) x left) d.0
      (subst⁻¹ (λ (v : List ℕ). Outcome w (sim_network_stack now (event_in e)) (refused 9 0) v) d.1
      (outcome_n w (sim_network_stack now (event_in e)) 9 (inr (inr (f.accepted, last true q)))))
  by_room false q =
      let f = step_free w now (event_in e) u in
      outcome_done w (sim_network_stack now (event_in e)) (inr (inr (f.accepted, last false q))) (step_of a) left
      (record {
        shaped = done.shaped;
        answer = done.answer q;
        state = done.state q;
        spare = done.spare;
        size = done.size;
        ten = λ _ _ _ t. done.ten t;
      })

  pub step_outcome : Outcome w (sim_network_stack now (event_in e)) (step_of a) left
  step_outcome = by_room is_full refl
