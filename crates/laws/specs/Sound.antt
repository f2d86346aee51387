-- Sound: the chains are in order and every value is inside its limits. One part of a side given anew keeps a side sound.
use Rattle.std.specs.Prelude.{ℕ, zero, suc, ◌≤◌, ◌<◌, ◌≡◌, Bool, true, false, List, [], ◌∷◌, length, set, get_or}
use Rattle.std.proofs.Common.{◌∙◌, length-set}
use Rattle.std.proofs.Math.Option.{Option, none, some, none-ne-some}
use Rattle.rules.specs.Basics.{Side, client, server, has_machine}
use Rattle.rules.specs.State.{Event, Action, ActionKind, SendPadding, BlockOutgoing, Held, Aggregate, Chain, SideState, State, queue, with_sum, with_block, with_timers, with_actions, side, with_side}
use Rattle.rules.specs.Limits.{moment_limit, duration_limit, delay_limit, machine_limit}
use Rattle.rules.specs.Queueing.{chain_of}
use Rattle.rules.specs.ChoiceRound.{no_timer, no_action}
use Rattle.laws.specs.Fits.{All}
use Rattle.laws.specs.Order.{in_order, event_before, aggregate_before}

-- ---- acceptance of a side, as facts

-- a kind with a machine has one below its side's count n; any other has 0
abbrev pub MachineOk : Bool → ℕ → ℕ → Type 0
MachineOk true n m = m < n
MachineOk false n m = m ≡ 0

-- an event in the chain that its kind and side call for, its values inside their limits
pub record EventOk (n : ℕ) (z : Side) (c : Chain) (e : Event) : Type 0 where
  pub of_side : e.side ≡ z
  pub of_chain : chain_of e ≡ c
  pub moment : e.moment ≤ moment_limit
  pub delay : e.delay ≤ delay_limit
  pub machine : MachineOk (has_machine e.kind) n e.machine

-- a chain of such events, in order
pub record ChainOk (n : ℕ) (z : Side) (c : Chain) (l : List (Held Event)) : Type 0 where
  pub events : All (λ (e : Held Event). EventOk n z c e.value) l
  pub order : in_order event_before l ≡ true

-- what a slot holds is fit, and its machine is there
abbrev pub SlotsOk : {A : Type 0} → (A → Type 0) → ℕ → List (Option A) → Type 0
SlotsOk {A} P n l = (m : ℕ) (a : A) → get_or l m none ≡ some a → P a × (m < n)

-- a block end, if any, is a moment
abbrev pub EndOk : Option ℕ → Type 0
EndOk none = Unit
EndOk (some t) = t ≤ moment_limit

-- only `BlockOutgoing` has a duration
abbrev pub DurationOk : ActionKind → ℕ → Type 0
DurationOk SendPadding d = d ≡ 0
DurationOk BlockOutgoing d = d ≤ duration_limit

-- an action inside its limits
abbrev pub ActionOk : Action → Type 0
ActionOk a = (a.moment ≤ moment_limit) × DurationOk a.kind a.duration

-- a side: delays, machines, chains, sum, stamps, block end, and slots
pub record SideOk (z : Side) (x : SideState) : Type 0 where
  pub action : x.fixed.action_delay ≤ duration_limit
  pub reporting : x.fixed.reporting_delay ≤ duration_limit
  pub machines : x.fixed.machines ≤ machine_limit
  pub chains : (c : Chain) → ChainOk x.fixed.machines z c (queue x.queues c)
  pub sum : x.sum ≤ moment_limit
  pub stamps : All (λ (t : Held ℕ). t.value ≤ moment_limit) x.stamps
  pub timer_slots : length x.timers ≡ machine_limit
  pub action_slots : length x.actions ≡ machine_limit
  pub end : EndOk x.block_end
  pub timers : SlotsOk (λ (t : ℕ). t ≤ moment_limit) x.fixed.machines x.timers
  pub actions : SlotsOk ActionOk x.fixed.machines x.actions

-- an aggregate inside its limits
abbrev pub AggregateOk : Aggregate → Type 0
AggregateOk a = (a.moment ≤ moment_limit) × (a.length ≤ moment_limit)

-- both sides, and the aggregates in order
pub record Sound (s : State) : Type 0 where
  pub client : SideOk client s.client
  pub server : SideOk server s.server
  pub aggregates : All (λ (a : Held Aggregate). AggregateOk a.value) s.aggregates
  pub order : in_order aggregate_before s.aggregates ≡ true

-- the side named
pub sound_side : {s : State} → Sound s → (z : Side) → SideOk z (side s z)
sound_side h client = h.client
sound_side h server = h.server

-- the side named given anew
pub sound_with : (s : State) (z : Side) (x : SideState) → Sound s → SideOk z x → Sound (with_side s z x)
sound_with s client x h k = record { client = k; server = h.server; aggregates = h.aggregates; order = h.order }
sound_with s server x h k = record { client = h.client; server = k; aggregates = h.aggregates; order = h.order }

-- ---- one part of a side given anew

-- its sum, its block end, its timers, its actions
pub sum_ok : (z : Side) (x : SideState) (n : ℕ) → SideOk z x → n ≤ moment_limit → SideOk z (with_sum x n)
sum_ok z x n o h =
    record { action = o.action; reporting = o.reporting; machines = o.machines; chains = o.chains; sum = h; stamps = o.stamps; timer_slots = o.timer_slots; action_slots = o.action_slots; end = o.end; timers = o.timers; actions = o.actions }

pub end_ok : (z : Side) (x : SideState) (e : Option ℕ) (f : Bool) → SideOk z x → EndOk e → SideOk z (with_block x e f)
end_ok z x e f o h =
    record { action = o.action; reporting = o.reporting; machines = o.machines; chains = o.chains; sum = o.sum; stamps = o.stamps; timer_slots = o.timer_slots; action_slots = o.action_slots; end = h; timers = o.timers; actions = o.actions }

pub timers_ok : (z : Side) (x : SideState) (l : List (Option ℕ)) → SideOk z x → length l ≡ machine_limit → SlotsOk (λ (t : ℕ). t ≤ moment_limit) x.fixed.machines l → SideOk z (with_timers x l)
timers_ok z x l o n h =
    record { action = o.action; reporting = o.reporting; machines = o.machines; chains = o.chains; sum = o.sum; stamps = o.stamps; timer_slots = n; action_slots = o.action_slots; end = o.end; timers = h; actions = o.actions }

pub actions_ok : (z : Side) (x : SideState) (l : List (Option Action)) → SideOk z x → length l ≡ machine_limit → SlotsOk ActionOk x.fixed.machines l → SideOk z (with_actions x l)
actions_ok z x l o n h =
    record { action = o.action; reporting = o.reporting; machines = o.machines; chains = o.chains; sum = o.sum; stamps = o.stamps; timer_slots = o.timer_slots; action_slots = n; end = o.end; timers = o.timers; actions = h }

-- a slot emptied
still_held : {A : Type 0} (l : List (Option A)) (i m : ℕ) {a : A} → get_or (set l i none) m none ≡ some a → get_or l m none ≡ some a
still_held [] i m {a} h = absurd (none-ne-some a h)
still_held (x ∷ l) zero zero {a} h = absurd (none-ne-some a h)
still_held (x ∷ l) zero (suc m) h = h
still_held (x ∷ l) (suc i) zero h = h
still_held (x ∷ l) (suc i) (suc m) h = still_held l i m h

-- a timer cleared, and an action
pub no_timer_ok : (z : Side) (x : SideState) (m : ℕ) → SideOk z x → SideOk z (no_timer x m)
no_timer_ok z x m o =
    timers_ok z x (set x.timers m none) o (length-set x.timers m none ∙ o.timer_slots) (λ i t e. o.timers i t (still_held x.timers m i e))

pub no_action_ok : (z : Side) (x : SideState) (m : ℕ) → SideOk z x → SideOk z (no_action x m)
no_action_ok z x m o =
    actions_ok z x (set x.actions m none) o (length-set x.actions m none ∙ o.action_slots) (λ i a e. o.actions i a (still_held x.actions m i e))
