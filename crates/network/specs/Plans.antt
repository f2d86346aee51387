-- What a step of `TunnelSent` and of `PaddingSent` is to do, worked out before anything is written: the rules' step_tunnel and step_padding with the
-- work left out. proofs/TunnelLaws and proofs/PaddingLaws put the two together again. Assumes nothing.
use Rattle.std.specs.Prelude.{ℕ, ◌+◌, ◌≤◌, ◌≡◌, ◌&&◌, false, true, List, [], ◌++◌, ◌∷◌, ltb, length, if◌then◌else◌}
use Rattle.std.proofs.Math.Option.{Option, none, some}
use Rattle.rules.specs.Basics.{Side, other, client, TunnelSent, PaddingSent, TunnelRecv}
use Rattle.rules.specs.State.{Event, SideState, State, in_record, side}
use Rattle.rules.specs.Limits.{moment_limit, delay_limit}
use Rattle.rules.specs.Arguments.{event_of as handed_over}
use Rattle.rules.specs.ChoiceHeads.{Head, waiting_head}
use Rattle.rules.specs.ChoiceRound.{lift_event}
use Rattle.rules.specs.Aggregates.{some_sum, add_aggregates, aggregates_of, on_delayed, on_replace, test_sums}
use Rattle.rules.specs.Queueing.{push_event, put_event}
use Rattle.rules.specs.NetworkStep.{Stepped, packet, unmoved, as_padding, let_pass, count_falls, stamps_kept, extra_over, rate_of, reported, stamp}
use Rattle.event.specs.declared.SimEvent.{SimEvent}
use Rattle.event.specs.HandedIn.{event_in}
use Rattle.queue.specs.declared.peek.Head.{Head as HeadFound}
use Rattle.event.specs.Values.{event_value}
use Rattle.queue.specs.Heads.{head_from}
use Rattle.queue.specs.Views.{moment_no}
use Rattle.delay.specs.Tests.{delayed_of, without}
use Rattle.network.specs.declared.tunnel.Tunnel.{Tunnel}
use Rattle.network.specs.declared.tunnel.Link.{Link}
use Rattle.network.specs.declared.padding.Padding.{Padding}
use Rattle.network.specs.declared.padding.Replaced.{Replaced}
use Rattle.network.specs.declared.padding.Padding.TheVariants.{Own, Dropped, Replaces}
use Rattle.network.specs.Due.{moments}
use Rattle.network.specs.Stamps.{limit_of, Above, evicted_count}

-- ---- `TunnelSent`

-- the event of the step, as the rules keep it
abbrev pub sent_of : SimEvent → Event
sent_of e = handed_over (event_in e) TunnelSent

-- what numbers 7 and 8 leave: moment, delay and time within their limits, and no delay above the moment of a packet that is not padding
pub record Sendable (e : SimEvent) (now : ℕ) : Type 0 where
  pub moment : e.moment.0 ≤ moment_limit
  pub delay : e.delay.0 ≤ delay_limit
  pub time : now ≤ moment_limit
  pub back : e.padding ≡ false → e.delay.0 ≤ e.moment.0

-- what the header says for a step of side z: "the aggregate test uses the client's sum on both sides", the reporting delay is the recipient's
pub record LinkAs (l : Link) (s : State) (z : Side) : Type 0 where
  pub delay : l.delay.length.0 ≡ s.settings.network_delay
  pub window : l.window.length.0 ≡ s.settings.window
  pub rate : limit_of l.rate ≡ rate_of s.settings.network_rate s.settings.queue_rate
  pub sum : l.sum.length.0 ≡ s.client.sum
  pub reporting : l.reporting.length.0 ≡ (side s (other z)).fixed.reporting_delay
  pub above : Above (limit_of l.rate)

-- a packet of moment u that is delayed by extra is tested for an aggregate: the length found, and the sums formed
unfoldable pub tested_by : SideState → ℕ → ℕ → ℕ → Option ℕ
tested_by x sum u extra = if ltb 0 extra && on_delayed x sum u then some extra else none

unfoldable pub tested_sums : SideState → ℕ → ℕ → ℕ → List ℕ
tested_sums x sum u extra = if ltb 0 extra then test_sums x sum u else []

-- the stamps that go, the delay to be aggregated, the sums that its test forms, and the packet at the other side
pub record TunnelPlan : Type 0 where
  pub stale : ℕ
  pub by : Option ℕ
  pub formed : List ℕ
  pub received : Event

abbrev pub tunnel_of : Tunnel → TunnelPlan
tunnel_of t = record { stale = t.stale; by = delayed_of t.tested.by; formed = some_sum (moment_no t.tested.base); received = event_value t.received }

-- what the window adds where it has c stamps
abbrev pub extra_at : State → ℕ → ℕ
extra_at s c = extra_over s.settings.window c (rate_of s.settings.network_rate s.settings.queue_rate)

-- the packet as the recipient sees it
abbrev pub received_as : State → ℕ → Event → ℕ → Event
received_as s now e extra =
    let r : ℕ = (side s (other e.side)).fixed.reporting_delay in
    packet TunnelRecv (reported e now (extra + s.settings.network_delay) r) r (other e.side) e.padding false false

-- the plan where the window has c stamps with the new one
abbrev pub tunnel_with : State → ℕ → Event → ℕ → TunnelPlan
tunnel_with s now e c =
    let x : SideState = side s e.side in
    record {
      stale = evicted_count s.settings.window now x.stamps;
      by = tested_by x s.client.sum e.moment (extra_at s c);
      formed = tested_sums x s.client.sum e.moment (extra_at s c);
      received = received_as s now e (extra_at s c);
    }

unfoldable pub tunnel_plan : State → ℕ → Event → TunnelPlan
tunnel_plan s now e = tunnel_with s now e (length (stamps_kept s.settings.window now (side s e.side).stamps) + 1)

-- the sums of the step, with network delay d
abbrev pub tunnel_sums : ℕ → Side → ℕ → TunnelPlan → List ℕ
tunnel_sums d z now p = p.formed ++ moments (aggregates_of d z now p.by) ++ (p.received.moment ∷ [])

-- the step by its plan: it is step_tunnel
abbrev pub tunnel_step : State → ℕ → Event → TunnelPlan → Stepped
tunnel_step s now e p =
    let d : ℕ = s.settings.network_delay in
    record {
      answer = true;
      falls = count_falls s.settings.window (side (stamp s e.side now) e.side).stamps;
      state = push_event (add_aggregates (stamp s e.side now) (aggregates_of d e.side now p.by)) p.received;
      sums = tunnel_sums d e.side now p;
    }

-- ---- `PaddingSent`

abbrev pub padded_of : SimEvent → Event
padded_of e = handed_over (event_in e) PaddingSent

-- a packet of its own; nothing; or the packet at the head is taken over, with the delay to be aggregated and the sums that its test forms
pub data PaddingPlan : Type 0 where
  own : PaddingPlan
  dropped : PaddingPlan
  takes : Head → Option ℕ → List ℕ → PaddingPlan

unfoldable pub padding_of : Padding → PaddingPlan
padding_of Own = own
padding_of Dropped = dropped
padding_of (Replaces r) = takes (head_from r.head) (delayed_of r.tested.by) (some_sum (moment_no r.tested.base))

-- the packet h is out of its queue at side x
abbrev pub takes_from : SideState → ℕ → Head → PaddingPlan
takes_from x now h = takes h (on_replace x now h.event.moment) (test_sums x x.sum h.event.moment)

-- the same of the code's head, by the side that it stands at
unfoldable pub taken_over : SideState → ℕ → HeadFound → PaddingPlan
taken_over x now h = takes_from (without x h.queue) now (head_from h)

-- what was found for the packet h that is taken over, and h as it was read, the number of its kind included
pub record TakenAs (r : Replaced) (x : SideState) (now : ℕ) (h : HeadFound) : Type 0 where
  pub is : padding_of (Replaces r) ≡ taken_over x now h
  pub head : r.head ≡ h

-- the plan p; the number of a packet that is taken over is a kind's
pub record PaddingAs (r : Padding) (p : PaddingPlan) : Type 0 where
  pub is : padding_of r ≡ p
  pub number : (x : Replaced) → r ≡ Replaces x → x.head.event.kind.0 ≤ 9

-- as replacing and step_padding go
abbrev pub plan_replacing : State → ℕ → Event → Option Head → PaddingPlan
plan_replacing s now e none = own
plan_replacing s now e (some h) =
    if h.event.padding then own else if e.bypass then takes_from (side (lift_event s h) h.event.side) now h else dropped

unfoldable pub padding_plan : State → ℕ → Event → PaddingPlan
padding_plan s now e =
    if e.replace then plan_replacing s now e (waiting_head (side s e.side).block_bypassable (side s e.side)) else own

-- the sums of the step, with network delay d
abbrev pub padding_sums : ℕ → ℕ → PaddingPlan → List ℕ
padding_sums d now own = []
padding_sums d now dropped = []
padding_sums d now (takes h by formed) = formed ++ moments (aggregates_of d h.event.side now by)

-- how many records more are in use after it
abbrev pub padding_records : PaddingPlan → ℕ
padding_records own = 1
padding_records dropped = 0
padding_records (takes h by formed) = length (aggregates_of 0 client 0 by)

-- the step by its plan: it is step_padding
abbrev pub padding_step : State → ℕ → Event → PaddingPlan → Stepped
padding_step s now e own = as_padding s e
padding_step s now e dropped = unmoved s false
padding_step s now e (takes h by formed) =
    let d : ℕ = s.settings.network_delay in
    record {
      answer = false;
      falls = none;
      state = add_aggregates (put_event (lift_event s h) (in_record h.place (let_pass h.event))) (aggregates_of d h.event.side now by);
      sums = padding_sums d now (takes h by formed);
    }
