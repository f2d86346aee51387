-- The code's candidate as the rules' own, and what is known of one that was found. Assumes nothing.
use Rattle.std.specs.Prelude.{ℕ, ◌<◌, ◌≡◌, false, List, Option, Some, None}
use Rattle.std.proofs.Math.Option.{Option as RulesOption, some}
use Rattle.rules.specs.State.{State, in_record, side}
use Rattle.rules.specs.ChoiceHeads.{waiting_head}
use Rattle.rules.specs.ChoiceDelays.{Block as EndingBlock}
use Rattle.rules.specs.ChoiceRound.{Slot as RulesSlot, Candidate as RulesCandidate, an_aggregate, a_block, an_event, a_timer, an_action, none_left, action_in, end_moment, held_up_length}
use Rattle.event.specs.HandedIn.{side_of, aggregate_in}
use Rattle.layout.specs.Records.{head_of, count_of}
use Rattle.layout.specs.Layout.{state_from}
pub use Rattle.queue.specs.Slots.{machine_slot, slot_from, action_value, slot_kind}
use Rattle.queue.specs.Heads.{head_from, HeadOk}
use Rattle.queue_peek.specs.Decoded.{block_from}
use Rattle.delay.specs.Tests.{delayed_of}
use Rattle.candidate.specs.declared.Due.{Due}
use Rattle.candidate.specs.declared.Planned.{Planned}
use Rattle.candidate.specs.declared.Candidate.{Candidate}
use Rattle.candidate.specs.declared.Candidate.TheVariants.{Aggregate, Block, Event, Timer, Action as TheAction}

-- ---- decoding

abbrev pub due_slot : Due → RulesSlot
due_slot d = slot_from d.slot

abbrev pub planned_slot : Planned → RulesSlot
planned_slot p = slot_from p.slot

-- `Candidate`, of the words h: an aggregate is the head of chain 11
unfoldable pub candidate_of : List ℕ → Candidate → RulesCandidate
candidate_of h (Aggregate a) = an_aggregate (in_record (head_of h 11) (aggregate_in a))
candidate_of h (Block k by) = a_block (block_from k)
candidate_of h (Event x) = an_event (head_from x)
candidate_of h (Timer d) = a_timer (due_slot d) d.moment.0
candidate_of h (TheAction p) = an_action (planned_slot p) (action_value p.action)

-- a candidate, or none
unfoldable pub next_of : List ℕ → Option Candidate → RulesCandidate
next_of h (Some c) = candidate_of h c
next_of h None = none_left

-- ---- what is known of a candidate that was found in the words h and rs

unfoldable pub Stands : List ℕ → List ℕ → Candidate → Type 0
Stands h rs (Aggregate a) = 0 < count_of h 11
Stands h rs (Block k by) = (side (state_from h rs) (side_of k.client)).block_end ≡ some k.end.0
Stands h rs (Event x) = HeadOk h rs x.event.client x
Stands h rs (Timer d) = Unit {0}
Stands h rs (TheAction p) =
    (action_in (state_from h rs) (planned_slot p) ≡ some (action_value p.action)) × (p.action.kind.0 ≡ slot_kind h p.slot.client p.slot.machine)

-- what the test at a block's end finds, where the round is made at the time t
abbrev pub held_up_at : State → ℕ → EndingBlock → RulesOption ℕ
held_up_at s t k = held_up_length (side s k.side) (end_moment t k) (waiting_head false (side s k.side))

-- a block's end comes with it
unfoldable pub Reckoned : List ℕ → List ℕ → ℕ → Candidate → Type 0
Reckoned h rs t (Aggregate a) = Unit {0}
Reckoned h rs t (Block k by) = delayed_of by ≡ held_up_at (state_from h rs) t (block_from k)
Reckoned h rs t (Event x) = Unit {0}
Reckoned h rs t (Timer d) = Unit {0}
Reckoned h rs t (TheAction p) = Unit {0}

-- the same of one that may be none
unfoldable pub NextStands : List ℕ → List ℕ → Option Candidate → Type 0
NextStands h rs (Some c) = Stands h rs c
NextStands h rs None = Unit {0}

unfoldable pub NextReckoned : List ℕ → List ℕ → ℕ → Option Candidate → Type 0
NextReckoned h rs t (Some c) = Reckoned h rs t c
NextReckoned h rs t None = Unit {0}
