-- A network step on an accepted state: what its plan says of the rules' step, what any plan forms and takes, and what the call asks and leaves. Assumes nothing.
use Rattle.std.specs.Prelude.{ℕ, ◌+◌, ◌≤◌, ◌≡◌, Bool, false, true, List, [], Result, ltb, get_or, length}
use Rattle.rules.specs.Basics.{Side, client, kind_of}
use Rattle.rules.specs.State.{State, reserved}
use Rattle.rules.specs.Limits.{delay_limit, moment_limit}
use Rattle.rules.specs.Aggregates.{aggregates_of}
use Rattle.rules.specs.Effects.{after_step}
use Rattle.rules.specs.NetworkStep.{Stepped, queueing, unmoved}
use Rattle.rules.specs.Refusals.{full}
use Rattle.rules.specs.Choice.{refused}
use Rattle.rules.specs.Calls.{stepped}
use Rattle.event.specs.Answers.{step_of}
use Rattle.event.specs.HandedIn.{event_in}
use Rattle.event.specs.declared.SimEvent.{SimEvent}
use Rattle.event.specs.declared.answer.Refusal.{Refusal}
use Rattle.event.specs.declared.answer.Stepped.{Stepped as SteppedOf}
use Rattle.layout.specs.Accepted.{Accepted}
use Rattle.layout.specs.Layout.{state_of}
use Rattle.layout.specs.Shape.{Shaped}
use Rattle.layout.specs.Spare.{Spare}
use Rattle.queue.specs.Changes.{count_in}
use Rattle.queue.specs.Pushes.{Canonical}
use Rattle.event.specs.Values.{event_value}
use Rattle.delay.specs.Tests.{delayed_of}
use Rattle.network.specs.declared.padding.Padding.{Padding}
use Rattle.network.specs.declared.padding.Padding.TheVariants.{Replaces}
use Rattle.network.specs.declared.padding.Replaced.{Replaced}
use Rattle.network.specs.declared.tunnel.Tunnel.{Tunnel}
use Rattle.network.specs.Plans.{padded_of, padding_of, padding_plan, padding_records, padding_sums, sent_of, tunnel_of, tunnel_plan, tunnel_sums}
use Rattle.network_stack.specs.declared.plan.Plan.{Plan}
use Rattle.network_stack.specs.declared.plan.Plan.TheVariants.{Nothing, Pad, Queue, Send}

-- the rules' step of the event handed in, as if no sum had a limit
unfoldable pub after_of : State → ℕ → SimEvent → Stepped
after_of s now e = after_step s now (event_in e) (kind_of e.kind.0)

-- what numbers 7 and 8 leave of it: moment and delay within their limits, and no delay above the moment of an unpadded `TunnelSent`
pub record Handed (e : SimEvent) : Type 0 where
  pub moment : e.moment.0 ≤ moment_limit
  pub delay : e.delay.0 ≤ delay_limit
  pub back : e.kind.0 ≡ 0 → e.padding ≡ false → e.delay.0 ≤ e.moment.0

-- ---- the plan

-- the step queues q
pub record Queues (s : State) (now : ℕ) (e : SimEvent) (q : SimEvent) : Type 0 where
  pub canonical : Canonical q
  pub active : Bool
  pub step : after_of s now e ≡ queueing s active (event_value q)

-- it is that of a `PaddingSent`, with this plan; the number of a packet that is taken over is a kind's
pub record Pads (s : State) (now : ℕ) (e : SimEvent) (p : Padding) : Type 0 where
  pub kind : e.kind.0 ≡ 2
  pub plan : padding_of p ≡ padding_plan s now (padded_of e)
  pub number : (x : Replaced) → p ≡ Replaces x → x.head.event.kind.0 ≤ 9

-- it is that of a `TunnelSent`, with this plan
pub record Sends (s : State) (now : ℕ) (e : SimEvent) (t : Tunnel) : Type 0 where
  pub kind : e.kind.0 ≡ 0
  pub plan : tunnel_of t ≡ tunnel_plan s now (sent_of e)

-- p is the plan of the step of e on s
unfoldable pub Planned : State → ℕ → SimEvent → Plan → Type 0
Planned s now e Nothing = after_of s now e ≡ unmoved s false
Planned s now e (Queue q) = Queues s now e q
Planned s now e (Pad p) = Pads s now e p
Planned s now e (Send t) = Sends s now e t

-- ---- what any plan forms, takes and gives back

-- the sums that it forms, at side z, with network delay d
unfoldable pub plan_sums : ℕ → Side → ℕ → Plan → List ℕ
plan_sums d z now Nothing = []
plan_sums d z now (Queue q) = []
plan_sums d z now (Pad p) = padding_sums d now (padding_of p)
plan_sums d z now (Send t) = tunnel_sums d z now (tunnel_of t)

-- the records that it takes: a `TunnelSent` takes one for its stamp, one for `TunnelRecv`, and those of the aggregates
unfoldable pub plan_records : Plan → ℕ
plan_records Nothing = 0
plan_records (Queue q) = 1
plan_records (Pad p) = padding_records (padding_of p)
plan_records (Send t) = 2 + length (aggregates_of 0 client 0 (delayed_of t.tested.by))

-- the records that it gives back: those of the stale stamps
unfoldable pub plan_gives_back : Plan → ℕ
plan_gives_back Nothing = 0
plan_gives_back (Queue q) = 0
plan_gives_back (Pad p) = 0
plan_gives_back (Send t) = t.stale

-- what it takes and what is kept in reserve pass what is free and what it gives back
abbrev pub no_room : List ℕ → Plan → Bool
no_room w p = ltb (count_in w 0 + plan_gives_back p) (reserved (state_of w) + plan_records p)

-- ---- a plan is carried out

-- it may be carried out: number 9 is not given
pub record MayMake (w : List ℕ) (p : Plan) (e : SimEvent) (d now : ℕ) : Type 0 where
  pub accepted : Accepted w
  pub plan : Planned (state_of w) now e p
  pub room : full (after_of (state_of w) now e).state ≡ false
  pub delay : d ≡ (state_of w).settings.network_delay

-- ---- the call

pub record MayStep (w : List ℕ) (e : SimEvent) : Type 0 where
  pub accepted : Accepted w
  pub handed : Handed e

-- number 9 where the records would not do, and then nothing is changed; else the answer and the state of the rules, number 10 included
pub record StepDone (w : List ℕ) (now : ℕ) (e : SimEvent) (a : Result SteppedOf Refusal) (left : List ℕ) : Type 0 where
  pub nine : full (after_step (state_of w) now (event_in e) (kind_of e.kind.0)).state ≡ true → (step_of a ≡ refused 9 0) × (left ≡ w)
  pub answer :
      full (after_step (state_of w) now (event_in e) (kind_of e.kind.0)).state ≡ false
      → step_of a ≡ (stepped (state_of w) (after_step (state_of w) now (event_in e) (kind_of e.kind.0))).answer
  pub state :
      full (after_step (state_of w) now (event_in e) (kind_of e.kind.0)).state ≡ false
      → state_of left ≡ (stepped (state_of w) (after_step (state_of w) now (event_in e) (kind_of e.kind.0))).state
  pub shaped : Shaped left
  pub size : length left ≡ length w
  pub spare : (i : ℕ) → Spare i → get_or left i 0 ≡ get_or w i 0
  -- "Number 10 sets the ended mark. [..] a step changes nothing else."
  pub ten : step_of a ≡ refused 10 0 → (i : ℕ) → (i ≡ 16 → ⊥) → get_or left i 0 ≡ get_or w i 0
