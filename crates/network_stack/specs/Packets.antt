-- The packets that a step queues, and what a plan asks before it is carried out. Assumes nothing.
use Rattle.std.specs.Prelude.{ℕ, ◌+◌, ◌≤◌, ◌≡◌, Bool, false, List, Option, length, if◌then◌else◌}
use Rattle.std.proofs.Math.Option.{some}
use Rattle.rules.specs.Basics.{NormalRecv, PaddingRecv}
use Rattle.rules.specs.State.{Event, State, in_record}
use Rattle.rules.specs.ChoiceHeads.{Head as RulesHead}
use Rattle.rules.specs.ChoiceRound.{lift_event}
use Rattle.rules.specs.Queueing.{put_event}
use Rattle.rules.specs.Aggregates.{aggregates_of}
use Rattle.rules.specs.NetworkStep.{Stepped, let_pass, packet}
use Rattle.laws.specs.Heads.{HeadOf}
use Rattle.event.specs.HandedIn.{side_of}
use Rattle.event.specs.Answers.{falls_of}
use Rattle.event.specs.declared.SimEvent.{SimEvent}
use Rattle.moment.specs.declared.Moment.{Moment}
use Rattle.layout.specs.Accepted.{Accepted}
use Rattle.layout.specs.Layout.{state_of}
use Rattle.layout.specs.Shape.{Shaped}
use Rattle.queue.specs.declared.peek.Head.{Head}
use Rattle.queue.specs.Changes.{Leaves, count_in}
use Rattle.queue.specs.Heads.{head_from}
use Rattle.queue.specs.Pushes.{Canonical}
use Rattle.event.specs.Values.{event_value}
use Rattle.delay.specs.Tests.{delayed_of, Packets}
use Rattle.network.specs.declared.padding.Padding.{Padding}
use Rattle.network.specs.declared.padding.Replaced.{Replaced}
use Rattle.network.specs.declared.tunnel.Tunnel.{Tunnel}
use Rattle.network.specs.Plans.{padded_of, padding_of, padding_plan, padding_records, sent_of, tunnel_of, tunnel_plan}

-- the event is this one of the rules, and may stand in a record
pub record Packet (r : SimEvent) (v : Event) : Type 0 where
  pub canonical : Canonical r
  pub is : event_value r ≡ v

-- what a `TunnelRecv` becomes: the number of its kind, and the event
abbrev pub receipt_no : Bool → ℕ
receipt_no padding = if padding then 5 else 4

unfoldable pub receipt_kind : SimEvent → Event
receipt_kind e = packet (if e.padding then PaddingRecv else NormalRecv) e.moment.0 e.delay.0 (side_of e.client) e.padding false false

-- ---- `PaddingSent`

-- the packet at the head h leaves its queue and arrives anew with the record that it has
unfoldable pub passed_on : State → RulesHead → State
passed_on s h = put_event (lift_event s h) (in_record h.place (let_pass h.event))

-- h is the head of blocking or bypassable
pub record MayTakeOver (w : List ℕ) (h : Head) : Type 0 where
  pub shaped : Shaped w
  pub queue : Packets h.queue
  pub first : HeadOf (state_of w) (some (head_from h))

-- and the aggregates have free records
pub record MayReplace (w : List ℕ) (r : Replaced) (d now : ℕ) : Type 0 where
  pub head : MayTakeOver w r.head
  pub free : length (aggregates_of d (side_of r.head.event.client) now (delayed_of r.tested.by)) ≤ count_in w 0

-- p is the plan for the state held, and there are free records for it
pub record MayPad (w : List ℕ) (p : Padding) (e : SimEvent) (d now : ℕ) : Type 0 where
  pub accepted : Accepted w
  pub plan : padding_of p ≡ padding_plan (state_of w) now (padded_of e)
  pub free : padding_records (padding_of p) ≤ count_in w 0
  pub delay : d ≡ (state_of w).settings.network_delay

-- ---- `TunnelSent`

-- t is the plan for the state held, and with the records of the stale stamps there are enough for it
pub record MaySend (w : List ℕ) (t : Tunnel) (e : SimEvent) (d now : ℕ) : Type 0 where
  pub accepted : Accepted w
  pub plan : tunnel_of t ≡ tunnel_plan (state_of w) now (sent_of e)
  pub free : 2 + length (aggregates_of d (side_of e.client) now (delayed_of t.tested.by)) ≤ count_in w 0 + t.stale
  pub delay : d ≡ (state_of w).settings.network_delay

-- ---- a step that is carried out

-- the state held is the one that the step x leaves, and f is when it says that the packet count falls
pub record Carried (w left : List ℕ) (x : Stepped) (f : Option Moment) : Type 0 where
  pub leaves : Leaves w left x.state
  pub falls : falls_of f ≡ x.falls
