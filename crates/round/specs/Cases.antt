-- What each case of a round asks, and what it answers. Assumes nothing.
use Rattle.std.specs.Prelude.{ℕ, ◌+◌, ◌≤◌, ◌≡◌, Bool, true, false, Option, Some, None, Result, Ok, Err, take, drop}
use mathlib.Core.List.{List, head?}
use Rattle.std.proofs.Math.Option.{Option as MathOption, none, some}
use Rattle.moment.specs.declared.Length.{Length}
use Rattle.rules.specs.Basics.{Side, PaddingSent, BlockingBegin, BlockingEnd}
use Rattle.rules.specs.State.{Action, Event, State, BlockOutgoing, in_record, side, with_side, with_ended}
use Rattle.rules.specs.Limits.{moment_limit}
use Rattle.rules.specs.ChoiceRound.{Slot, RoundOutcome, next, taken, nothing, passed, raised_sum, shifted, action_sums, fits, end_event, taken_event, take_event, acted_side, acted_event}
use Rattle.rules.specs.Queueing.{push_event}
use Rattle.rules.specs.Choice.{Answer, event, nothing_left, refused}
use Rattle.laws.specs.Falls.{state_after}
use Rattle.event.specs.HandedIn.{side_of, aggregate_in}
use Rattle.event.specs.Answers.{found_as, refused_by}
use Rattle.event.specs.Values.{event_value, known_event}
use Rattle.event.specs.declared.SimEvent.{SimEvent}
use Rattle.event.specs.declared.answer.Chosen.{Chosen}
use Rattle.event.specs.declared.answer.Refusal.{Refusal}
use Rattle.event.specs.declared.AggregateDelay.{AggregateDelay}
use Rattle.moment.specs.declared.Moment.{Moment}
use Rattle.layout.specs.Accepted.{Accepted}
use Rattle.layout.specs.Layout.{state_of}
use Rattle.layout.specs.Shape.{Shaped}
use Rattle.queue.specs.Changes.{head_in}
use Rattle.queue.specs.Heads.{head_from, HeadOk}
use Rattle.queue.specs.Pushes.{Canonical}
use Rattle.queue.specs.declared.peek.Head.{Head}
use Rattle.queue_peek.specs.Decoded.{block_from}
use Rattle.queue_peek.specs.declared.blocks.BlockEnd.{BlockEnd}
use Rattle.delay.specs.Tests.{delayed_of}
use Rattle.candidate.specs.Candidates.{action_value, held_up_at}
use Rattle.candidate.specs.declared.Planned.{Planned}
use Rattle.round.specs.Changes.{Becomes, HasFree}

-- ---- events made

-- an event as the rules have it, which may be queued
pub record Shows (r : SimEvent) (e : Event) : Type 0 where
  pub is : event_value r ≡ e
  pub canonical : Canonical r

-- `PaddingSent` and `BlockingBegin` of an action
abbrev pub padding_of : Slot → Action → ℕ → Event
padding_of z a d =
    record { kind = PaddingSent; moment = a.moment; delay = d; side = z.side; padding = true; bypass = a.bypass; replace = a.replace; machine = z.machine }

abbrev pub begin_of : Slot → Action → ℕ → Bool → Event
begin_of z a d flag =
    record { kind = BlockingBegin; moment = a.moment + d; delay = d; side = z.side; padding = false; bypass = flag; replace = false; machine = z.machine }

-- `BlockingEnd`
abbrev pub end_of : Side → ℕ → ℕ → Event
end_of z end d = record { kind = BlockingEnd; moment = end + d; delay = d; side = z; padding = false; bypass = false; replace = false; machine = 0 }

-- ---- what is taken

-- the first aggregate, whose side's sum stays within the limit
pub record AggregateDue (w : List ℕ) (a : AggregateDelay) : Type 0 where
  pub shaped : Shaped w
  pub first : head? (state_of w).aggregates ≡ some (in_record (head_in w 11) (aggregate_in a))
  pub sum : raised_sum (state_of w) (aggregate_in a) ≤ moment_limit

-- a head of the queues, not before its own moment with the sum that a base event has added
pub record EventDue (w : List ℕ) (h : Head) : Type 0 where
  pub shaped : Shaped w
  pub head : HeadOk (take 256 w) (drop 256 w) h.event.client h
  pub lifted : shifted (side (state_of w) (side_of h.event.client)) (head_from h) ≤ h.moment.0

-- an event at another moment
abbrev pub moved_to : SimEvent → Moment → SimEvent
moved_to e m = record { kind = e.kind; moment = m; delay = e.delay; client = e.client; padding = e.padding; bypass = e.bypass; replace = e.replace; machine = e.machine }

-- the state without it, and the event as it is returned: its number is a kind's
pub record EventTaken (w left : List ℕ) (now : ℕ) (h : Head) (r : SimEvent) : Type 0 where
  pub words : Becomes w left (take_event (state_of w) (head_from h))
  pub event : known_event r ≡ some (taken_event (state_of w) now (head_from h))

-- a free record, and the action's sums within the limit
pub record ActionDue (w : List ℕ) (p : Planned) : Type 0 where
  pub room : HasFree w 1
  pub sums : fits (action_sums (action_value p.action).kind (side (state_of w) (side_of p.slot.client)) (action_value p.action)) ≡ true

-- the same of a `BlockOutgoing` whose slot is cleared
pub record BeginDue (w : List ℕ) (p : Planned) : Type 0 where
  pub room : HasFree w 1
  pub end : p.action.moment.0 + p.action.duration.0 ≤ moment_limit
  pub begin : p.action.moment.0 + ((side (state_of w) (side_of p.slot.client)).fixed.action_delay + (side (state_of w) (side_of p.slot.client)).fixed.reporting_delay) ≤ moment_limit

-- the side after the block began, or not
abbrev pub begun : State → Side → Action → State
begun s z a = with_side s z (acted_side BlockOutgoing (side s z) a)

-- and `BlockingBegin` queued
abbrev pub start_block : State → Slot → Action → State
start_block s z a = push_event (begun s z.side a) (acted_event BlockOutgoing (acted_side BlockOutgoing (side s z.side) a) z a)

-- a block's end, three free records, sums within the limit, and what the test at it finds
pub record BlockDue (w : List ℕ) (now : ℕ) (k : BlockEnd) (by : Option Length) : Type 0 where
  pub accepted : Accepted w
  pub set : (side (state_of w) (side_of k.client)).block_end ≡ some k.end.0
  pub sum : (end_event (state_of w) now (block_from k)).moment ≤ moment_limit
  pub reckoned : delayed_of by ≡ held_up_at (state_of w) now (block_from k)

-- ---- a round's answer

-- another round, or the answer of the choice
abbrev pub pass_of : Result (Option Chosen) Refusal → MathOption Answer
pass_of (Ok None) = none
pass_of (Ok (Some c)) = some (found_as c.event c.rounds)
pass_of (Err r) = some (refused_by r)

-- what the rules answer after a round, k being finished before it
abbrev pub said : ℕ → RoundOutcome → MathOption Answer
said k (next s) = none
said k (taken e s) = some (event e (k + 1))
said k (nothing s) = some (nothing_left (k + 1))
said k (passed s) = some (refused 10 k)

-- the round came to o: its answer, and the words that it leaves
pub record Passed (w left : List ℕ) (k : ℕ) (o : RoundOutcome) (r : Result (Option Chosen) Refusal) : Type 0 where
  pub answer : pass_of r ≡ said k o
  pub words : Becomes w left (state_after o)

-- a sum passed the limit
abbrev pub Marked : List ℕ → List ℕ → ℕ → Result (Option Chosen) Refusal → Type 0
Marked w left k r = Passed w left k (passed (with_ended (state_of w) true)) r
