-- The promise of setting and clearing a timer, from the call's having no number and the words stored. Assumes nothing.
use Prim.Native.Nat.{ℕ, suc, ◌+◌, ◌*◌, ◌^◌, ◌<◌}
use mathlib.Core.Path.{◌≡◌, refl, sym, subst, ◌∙◌}
use mathlib.Core.Bool.{Bool, true, false}
use mathlib.Core.List.{List}
use mathlib.Core.Option.{none}
use native.Mathlib.Omega.{arith}
use native.Mathlib.Numerals.{add-one}
use lib.ListN.{get_or, set, take, drop, length-set}
use lib.Seq.{get_or-set_other}
use borrow.Author.Tests.{ltb-false}
use Rattle.rules.specs.Limits.{moment_limit}
use Rattle.rules.specs.ChoiceRound.{timer_cleared}
use Rattle.rules.specs.Choice.{done}
use Rattle.rules.specs.Arguments.{Call, clear_timer, set_timer}
use Rattle.rules.specs.Effects.{timer_set}
use Rattle.rules.specs.Refusals.{no_machine, refusal, table}
use Rattle.rules.specs.Calls.{work}
use Rattle.laws.specs.CallRuns.{AllFalse, none_met}
use Rattle.event.specs.HandedIn.{side_of}
use Rattle.layout.specs.Accepted.{Accepted}
use Rattle.layout.specs.Spare.{Spare}
use Rattle.layout.specs.Layout.{state_of}
use Rattle.layout.specs.Changes.{side_no}
use Rattle.layout.proofs.Spares.{spare_slots}
use Rattle.layout.proofs.Stores.{timer_shaped, timer_stored}
use Rattle.simulator.specs.Does.{Does}
use Rattle.simulator.specs.Outcome.{Outcome}
use Rattle.simulator.specs.Numbers.{Numbered, slot_in}
use Rattle.simulator.proofs.Outcomes.{passed_accepted, passed_none}
use Rattle.simulator.proofs.Reading.{machines_most}
use Rattle.simulator.proofs.SlotNumbers.{slot_has}
use Rattle.simulator.proofs.Working.{outcome_done, passed_shaped}

-- no word without a meaning is a timer's
timer_spare : (w : List ℕ) (j v : ℕ) → j < 32 → (i : ℕ) → Spare i → get_or (set w (64 + j) v) i 0 ≡ get_or w i 0
timer_spare w j v small i s = get_or-set_other w (64 + j) i v 0 (spare_slots i (64 + j) s (omega arith) (omega arith))

-- a machine that its side has
pub has_small : (w : List ℕ) (c : Bool) (m : ℕ) → Accepted w → no_machine (state_of w) (slot_in c m) ≡ false → m < 16
has_small w c m acc e = omega (arith, slot_has (take 256 w) (drop 256 w) c m e, machines_most (take 256 w) c acc.good.limits)

pub slot_below : (c : Bool) (m : ℕ) → m < 16 → 16 * side_no (side_of c) + m < 32
slot_below true m l = omega arith
slot_below false m l = omega arith

-- ---- setting a timer

module _ (w : List ℕ) (c : Bool) (m t : ℕ) (num : Numbered w (set_timer (slot_in c m) t) none) where
  abbrev setting : Call
  setting = set_timer (slot_in c m) t

  timer_free : AllFalse (table (state_of w) (set_timer (slot_in c m) t))
  unfolding table refusal
  timer_free = none_met (table (state_of w) setting) (passed_none w setting num)

  pub timer_small : m < 16
  unfolding table
  timer_small = has_small w c m (passed_accepted w setting num) timer_free.1.0

  pub timer_fits : t + 1 < 2 ^ 64
  unfolding table
  timer_fits = omega (arith, ltb-false moment_limit t timer_free.1.1.0)

  timer_does : Does w (set_timer (slot_in c m) t) done (set w (64 + (16 * side_no (side_of c) + m)) (suc t))
  unfolding work timer_set
  timer_does =
      record {
        shaped = timer_shaped w (passed_shaped w setting num) (suc t) (side_of c) m timer_small;
        answer = refl;
        state = timer_stored w (passed_shaped w setting num) (suc t) (side_of c) m timer_small;
        spare = timer_spare w (16 * side_no (side_of c) + m) (suc t) (slot_below c m timer_small);
        size = length-set w (64 + (16 * side_no (side_of c) + m)) (suc t);
        ten = λ now e q. absurd (let x : ◌≡◌ {A = ℕ} 0 1 = cc in omega arith);
      }

  pub timer_done : (j u : ℕ) → (j ≡ 16 * side_no (side_of c) + m) × (j < 32) → u ≡ t + 1 → Outcome w (set_timer (slot_in c m) t) done (set w (64 + j) u)
  timer_done j u ej eu = subst (Outcome w setting done) (sym (λ d. set w (64 + ej.0 d) ((eu ∙ add-one t) d))) (outcome_done w setting num done _ timer_does)

-- ---- clearing a timer

module _ (w : List ℕ) (c : Bool) (m : ℕ) (num : Numbered w (clear_timer (slot_in c m)) none) where
  abbrev clearing : Call
  clearing = clear_timer (slot_in c m)

  pub clear_small : m < 16
  unfolding table refusal
  clear_small = has_small w c m (passed_accepted w clearing num) (none_met (table (state_of w) clearing) (passed_none w clearing num)).1.0

  clear_does : Does w (clear_timer (slot_in c m)) done (set w (64 + (16 * side_no (side_of c) + m)) 0)
  unfolding work timer_cleared
  clear_does =
      record {
        shaped = timer_shaped w (passed_shaped w clearing num) 0 (side_of c) m clear_small;
        answer = refl;
        state = timer_stored w (passed_shaped w clearing num) 0 (side_of c) m clear_small;
        spare = timer_spare w (16 * side_no (side_of c) + m) 0 (slot_below c m clear_small);
        size = length-set w (64 + (16 * side_no (side_of c) + m)) 0;
        ten = λ now e q. absurd (let x : ◌≡◌ {A = ℕ} 0 1 = cc in omega arith);
      }

  pub clear_done : (j : ℕ) → (j ≡ 16 * side_no (side_of c) + m) × (j < 32) → Outcome w (clear_timer (slot_in c m)) done (set w (64 + j) 0)
  clear_done j ej = subst (Outcome w clearing done) (sym (λ d. set w (64 + ej.0 d) 0)) (outcome_done w clearing num done _ clear_does)
