-- The action of a slot as what a round takes up. Assumes nothing.
use Prim.Native.Nat.{ℕ}
use mathlib.Core.Path.{◌≡◌, refl, sym, ap, subst, ◌∙◌}
use mathlib.Core.List.{List}
use Rattle.std.specs.Prelude.{Option, Some, None}
use Rattle.std.specs.Option.{option_map}
use Rattle.rules.specs.ChoiceRound.{action_in, or_none, an_action, action_from}
use Rattle.event.specs.declared.ScheduledAction.{ScheduledAction}
use Rattle.layout.specs.Layout.{state_from}
use Rattle.queue.specs.declared.header.Slot.{Slot}
use Rattle.queue.specs.Slots.{slot_from, action_no, KindIn}
use Rattle.candidate.specs.declared.Candidate.{Candidate}
use Rattle.candidate.specs.declared.Candidate.TheVariants.{Action as TheAction}
use Rattle.candidate.specs.Candidates.{candidate_of, next_of, Stands, NextStands}
use Rattle.candidate.specs.Promises.{Picked}

module _ (h : List ℕ) (z : Slot) (r : Option ScheduledAction) (is : (rs : List ℕ) → action_no r ≡ action_in (state_from h rs) (slot_from z)) where
  planned_none : r ≡ None → (rs : List ℕ) → Picked h rs None (action_from (state_from h rs) (slot_from z))
  unfolding next_of NextStands
  planned_none e rs = record { is = ap (or_none (an_action (slot_from z))) (ap action_no (sym e) ∙ is rs); stands = tt }

  planned_some : (a : ScheduledAction) → r ≡ Some a → KindIn h z r → (rs : List ℕ) → Picked h rs (Some (TheAction (record { slot = z; action = a }))) (action_from (state_from h rs) (slot_from z))
  unfolding next_of NextStands candidate_of Stands KindIn
  planned_some a e k rs =
      let held = ap action_no (sym e) ∙ is rs in
      record { is = ap (or_none (an_action (slot_from z))) held; stands = (sym held, rw e at k) }

  pub planned_as : (q : Option Candidate) → q ≡ option_map (λ a. TheAction (record { slot = z; action = a })) r → KindIn h z r → (rs : List ℕ) → Picked h rs q (action_from (state_from h rs) (slot_from z))
  planned_as q eq k rs = subst (λ x. Picked h rs x (action_from (state_from h rs) (slot_from z))) (sym eq) (go r refl)
    where
      go : (x : Option ScheduledAction) → r ≡ x → Picked h rs (option_map (λ a. TheAction (record { slot = z; action = a })) x) (action_from (state_from h rs) (slot_from z))
      go None e = planned_none e rs
      go (Some a) e = planned_some a e k rs
