-- What the functions promise beyond an equation. Assumes nothing.
use Rattle.std.specs.Prelude.{ℕ, ◌+◌, ◌≤◌, ◌≡◌, Bool, false, List, eqb, if◌then◌else◌, Option, Some, None}
use Rattle.std.proofs.Math.Option.{Option as RulesOption, none, some}
use Rattle.rules.specs.Basics.{after, absent, Delay}
use Rattle.rules.specs.State.{SideState, State}
use Rattle.rules.specs.Limits.{moment_limit}
use Rattle.rules.specs.ChoiceDelays.{Delays, offered}
use Rattle.rules.specs.ChoiceRound.{Slot as RulesSlot, Candidate as RulesCandidate, an_event, or_none, slot_at, slot_of, due_timer, due_action, event_first, timer_first}
use Rattle.queue.specs.declared.header.Slot.{Slot}
use Rattle.queue.specs.declared.view.View.{View}
use Rattle.candidate.specs.declared.Due.{Due}
use Rattle.candidate.specs.declared.Candidate.{Candidate}
use Rattle.candidate.specs.Candidates.{slot_from, due_slot, next_of, NextStands, NextReckoned}

-- ---- slots

-- a slot has the moment t
abbrev pub has_moment : ℕ → RulesOption ℕ → Bool
has_moment t none = false
has_moment t (some u) = eqb u t

-- ---- what was found

-- a slot, or none
unfoldable pub found_slot : Option Slot → RulesOption RulesSlot
found_slot (Some z) = some (slot_from z)
found_slot None = none

-- the slot that is due, or none
unfoldable pub due_of : Option Due → RulesOption RulesSlot
due_of (Some d) = some (due_slot d)
due_of None = none

-- what is due has the moment t
unfoldable pub DueWhen : ℕ → Option Due → Type 0
DueWhen t (Some d) = d.moment.0 ≡ t
DueWhen t None = Unit {0}

-- of the slots of both sides that hold these moments, at the moment t: the client's first, then the lowest machine's
pub record DueIn (moments : SideState → List (RulesOption ℕ)) (s : State) (t : ℕ) (r : Option Due) : Type 0 where
  pub when : DueWhen t r
  pub is : due_of r ≡ slot_of (slot_at t (moments s.client)) (slot_at t (moments s.server))

-- ---- what a round takes up

-- the rules' candidate, which stands in the words
pub record Picked (h rs : List ℕ) (r : Option Candidate) (c : RulesCandidate) : Type 0 where
  pub is : next_of h r ≡ c
  pub stands : NextStands h rs r

-- and a block's end comes with what the test at it finds, where the round is made at the time t
pub record TakenUp (h rs : List ℕ) (t : ℕ) (r : Option Candidate) (c : RulesCandidate) : Type 0 where
  pub picked : Picked h rs r c
  pub reckoned : NextReckoned h rs t r

-- the same of the words in view
abbrev pub PickedIn : View → Option Candidate → RulesCandidate → Type 0
PickedIn v r c = Picked v.words.header.now v.records.now r c

abbrev pub TakenUpIn : View → ℕ → Option Candidate → RulesCandidate → Type 0
TakenUpIn v t r c = TakenUp v.words.header.now v.records.now t r c

-- a delay from t ends within the limit
unfoldable pub Ahead : ℕ → Delay → Type 0
Ahead t absent = Unit {0}
Ahead t (after d) = t + d ≤ moment_limit

-- the last three of the rules' five cases
abbrev pub later_fitting : State → ℕ → Delays → RulesCandidate
later_fitting s now d =
    if event_first d then or_none an_event (offered s now)
    else if timer_first d then due_timer s now d.i else due_action s now d.s
