-- The promise of setting and clearing an action, from the call's having no number and the words stored. Assumes nothing.
use Prim.Native.Nat.{ℕ, zero, suc, ◌+◌, ◌*◌, ◌≤◌, ◌<◌}
use mathlib.Core.Path.{◌≡◌, refl, sym, ap, subst, ◌∙◌}
use mathlib.Core.Bool.{Bool, false, not, false≢true}
use mathlib.Core.List.{List}
use mathlib.Core.Option.{none}
use native.Mathlib.Omega.{arith}
use lib.ListN.{get_or}
use Rattle.rules.specs.Basics.{is_some}
use Rattle.rules.specs.State.{SendPadding, BlockOutgoing}
use Rattle.rules.specs.ChoiceRound.{action_cleared}
use Rattle.rules.specs.Choice.{done}
use Rattle.rules.specs.Arguments.{ActionIn, Call, action_kind_of, clear_action, set_action}
use Rattle.rules.specs.Refusals.{refusal, table}
use Rattle.rules.specs.Calls.{work}
use Rattle.laws.specs.CallRuns.{AllFalse, none_met}
use Rattle.event.specs.HandedIn.{side_of}
use Rattle.queue_event.specs.Tag.{bit}
use Rattle.layout.specs.Spare.{Spare}
use Rattle.layout.specs.Layout.{state_of}
use Rattle.layout.specs.Changes.{side_no, put_action}
use Rattle.layout.proofs.Spares.{spare_slots}
use Rattle.layout.proofs.ActionStores.{length_action, action_far, action_shaped, action_stored}
use Rattle.layout.proofs.ActionWords.{action_word, action_back, padding_canonical, block_canonical, empty_canonical, empty_back}
use Rattle.simulator.specs.Kept.{KeptAction, put_in}
use Rattle.simulator.specs.Does.{Does}
use Rattle.simulator.specs.Outcome.{Outcome}
use Rattle.simulator.specs.Numbers.{Numbered, slot_in, kept_no}
use Rattle.simulator.proofs.Outcomes.{passed_accepted, passed_none}
use Rattle.simulator.proofs.SlotOutcomes.{has_small, slot_below}
use Rattle.simulator.proofs.Working.{outcome_done, passed_shaped}

-- no word without a meaning is an action's
action_spare : (w : List ℕ) (j a t d : ℕ) → j < 32 → (i : ℕ) → Spare i → get_or (put_action j a t d w) i 0 ≡ get_or w i 0
action_spare w j a t d small i s = action_far w j a t d i (spare_slots i (96 + 3 * j) s (omega arith) (omega arith)) (spare_slots i (97 + 3 * j) s (omega arith) (omega arith)) (spare_slots i (98 + 3 * j) s (omega arith) (omega arith))

-- ---- the words of an action that may be set

kept_of : (k t d : ℕ) (b p : Bool) → not (is_some (action_kind_of k)) ≡ false → KeptAction (record { kind = k; moment = t; duration = d; bypass = b; replace = p }) (k + 4 * bit b + 8 * bit p) (kept_no k d)
unfolding action_word
kept_of zero t d b p e = absurd (false≢true (sym e))
kept_of (suc zero) t d b p e = record { shape = padding_canonical b p t; back = λ s z. ap (put_in s z) (action_back SendPadding b p t 0); small = omega arith }
kept_of (suc (suc zero)) t d b p e = record { shape = block_canonical b p t d; back = λ s z. ap (put_in s z) (action_back BlockOutgoing b p t d); small = omega arith }
kept_of (suc (suc (suc k))) t d b p e = absurd (false≢true (sym e))

-- ---- setting

module _ (w : List ℕ) (c : Bool) (m : ℕ) (r : ActionIn) (num : Numbered w (set_action (slot_in c m) r) none) where
  abbrev setting : Call
  setting = set_action (slot_in c m) r

  action_free : AllFalse (table (state_of w) (set_action (slot_in c m) r))
  unfolding table refusal
  action_free = none_met (table (state_of w) setting) (passed_none w setting num)

  pub action_small : m < 16
  unfolding table
  action_small = has_small w c m (passed_accepted w setting num) action_free.1.0

  pub action_kept : KeptAction r (r.kind + 4 * bit r.bypass + 8 * bit r.replace) (kept_no r.kind r.duration)
  unfolding table
  action_kept = kept_of r.kind r.moment r.duration r.bypass r.replace action_free.1.1.0

  pub action_kind : r.kind ≤ 2
  action_kind = action_kept.small

  action_does : (word kept : ℕ) → KeptAction r word kept → Does w (set_action (slot_in c m) r) done (put_action (16 * side_no (side_of c) + m) word r.moment kept w)
  unfolding work
  action_does word kept k =
      record {
        shaped = action_shaped w (passed_shaped w setting num) word r.moment kept (side_of c) m action_small k.shape;
        answer = refl;
        state = action_stored w (passed_shaped w setting num) word r.moment kept (side_of c) m action_small ∙ k.back (state_of w) (slot_in c m);
        spare = action_spare w (16 * side_no (side_of c) + m) word r.moment kept (slot_below c m action_small);
        size = length_action w (16 * side_no (side_of c) + m) word r.moment kept;
        ten = λ now e q. absurd (let x : ◌≡◌ {A = ℕ} 0 1 = cc in omega arith);
      }

  pub action_done :
      (j : ℕ) → (j ≡ 16 * side_no (side_of c) + m) × (j < 32) → (word kept : ℕ) → word ≡ r.kind + 4 * bit r.bypass + 8 * bit r.replace → kept ≡ kept_no r.kind r.duration
      → (left : List ℕ) → left ≡ put_action j word r.moment kept w → Outcome w (set_action (slot_in c m) r) done left
  action_done j ej word kept ew ek left e =
      subst (Outcome w setting done) (sym (e ∙ (λ d. put_action (ej.0 d) (ew d) r.moment (ek d) w))) (outcome_done w setting num done _ (action_does _ _ action_kept))

-- ---- clearing

module _ (w : List ℕ) (c : Bool) (m : ℕ) (num : Numbered w (clear_action (slot_in c m)) none) where
  abbrev clearing : Call
  clearing = clear_action (slot_in c m)

  pub emptied_small : m < 16
  unfolding table refusal
  emptied_small = has_small w c m (passed_accepted w clearing num) (none_met (table (state_of w) clearing) (passed_none w clearing num)).1.0

  emptied_does : Does w (clear_action (slot_in c m)) done (put_action (16 * side_no (side_of c) + m) 0 0 0 w)
  unfolding work action_cleared
  emptied_does =
      record {
        shaped = action_shaped w (passed_shaped w clearing num) 0 0 0 (side_of c) m emptied_small empty_canonical;
        answer = refl;
        state = action_stored w (passed_shaped w clearing num) 0 0 0 (side_of c) m emptied_small ∙ ap (put_in (state_of w) (slot_in c m)) empty_back;
        spare = action_spare w (16 * side_no (side_of c) + m) 0 0 0 (slot_below c m emptied_small);
        size = length_action w (16 * side_no (side_of c) + m) 0 0 0;
        ten = λ now e q. absurd (let x : ◌≡◌ {A = ℕ} 0 1 = cc in omega arith);
      }

  pub emptied_done : (j : ℕ) → (j ≡ 16 * side_no (side_of c) + m) × (j < 32) → (left : List ℕ) → left ≡ put_action j 0 0 0 w → Outcome w (clear_action (slot_in c m)) done left
  emptied_done j ej left e = subst (Outcome w clearing done) (sym (e ∙ (λ d. put_action (ej.0 d) 0 0 0 w))) (outcome_done w clearing num done _ emptied_does)
