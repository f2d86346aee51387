-- Document 01, "The state": what the lent words hold, one field changed at a time, and the counts used and reserved.
-- Moments and lengths are whole nanoseconds. What stands in a chain has a place, the number of its record in the lent words; only taking a
-- record from the free ones and giving it back look at places.
use Rattle.std.specs.Prelude.{◌*◌, ◌+◌, ℕ, Bool, List, [], ◌∷◌, get_or, length}
use Rattle.std.proofs.Math.Option.{Option, none, some}
use Rattle.rules.specs.Basics.{Kind, Side, client, server}

-- "Event: kind 0 to 9 as ranked by `event_to_usize`, moment, integration delay, side, padding flag, bypass, replace, machine": `SimEvent`
pub record Event : Type 0 where
  pub kind : Kind
  pub moment : ℕ
  pub delay : ℕ
  pub side : Side
  pub padding : Bool
  pub bypass : Bool
  pub replace : Bool
  pub machine : ℕ

-- the two actions that a slot can hold, of `TriggerAction`
pub data ActionKind : Type 0 where
  SendPadding BlockOutgoing : ActionKind

-- "An action is its moment, kind, bypass, replace and duration; only `BlockOutgoing` has a duration": `ScheduledAction`
pub record Action : Type 0 where
  pub kind : ActionKind
  pub moment : ℕ
  pub duration : ℕ
  pub bypass : Bool
  pub replace : Bool

-- a pending aggregate: when it is due, what it adds, and to which side's sum
pub record Aggregate : Type 0 where
  pub moment : ℕ
  pub length : ℕ
  pub side : Side

-- a value in the record of this number
pub record Held (A : Type 0) : Type 0 where
  pub place : ℕ
  pub value : A

-- the value a in record p
abbrev pub in_record : {A : Type 0} → ℕ → A → Held A
in_record p a = record { place = p; value = a }

-- the event chains of a side: "base, blocking, bypassable, internal". `EventQueue` has the same four
pub data Chain : Type 0 where
  base blocking bypassable internal : Chain

-- what they hold, each from its head
pub record Queues : Type 0 where
  pub base : List (Held Event)
  pub blocking : List (Held Event)
  pub bypassable : List (Held Event)
  pub internal : List (Held Event)

-- what opening fixes for a side: "Reporting and action delays are fixed numbers per side", and its number of machines
pub record Fixed : Type 0 where
  pub action_delay : ℕ
  pub reporting_delay : ℕ
  pub machines : ℕ

-- a side, `SimState`: its sum, "block end (or none) and bypassable flag", its chains, and sixteen slots each of timers and actions
pub record SideState : Type 0 where
  pub fixed : Fixed
  pub sum : ℕ
  pub block_end : Option ℕ
  pub block_bypassable : Bool
  pub queues : Queues
  pub stamps : List (Held ℕ)
  pub timers : List (Option ℕ)
  pub actions : List (Option Action)

-- the settings of both sides, of `Network` and `NetworkBottleneck`; an absent rate is none
pub record Settings : Type 0 where
  pub network_delay : ℕ
  pub network_rate : Option ℕ
  pub queue_rate : Option ℕ
  pub window : ℕ

-- the whole state: "settings, sums, each side's block end (or none) and bypassable flag, chain heads and counts, machine slots, an ended mark
-- and the rounds made since opening"; free has the numbers of the free records in their chain's order, room is R
pub record State : Type 0 where
  pub settings : Settings
  pub client : SideState
  pub server : SideState
  pub aggregates : List (Held Aggregate)
  pub free : List ℕ
  pub ended : Bool
  pub rounds : ℕ
  pub room : ℕ

-- ---- one field changed

-- the chain named, and the queues with that chain changed
abbrev pub queue : Queues → Chain → List (Held Event)
queue q base = q.base
queue q blocking = q.blocking
queue q bypassable = q.bypassable
queue q internal = q.internal

abbrev pub with_queue : Queues → Chain → List (Held Event) → Queues
with_queue q base l = record { base = l; blocking = q.blocking; bypassable = q.bypassable; internal = q.internal }
with_queue q blocking l = record { base = q.base; blocking = l; bypassable = q.bypassable; internal = q.internal }
with_queue q bypassable l = record { base = q.base; blocking = q.blocking; bypassable = l; internal = q.internal }
with_queue q internal l = record { base = q.base; blocking = q.blocking; bypassable = q.bypassable; internal = l }

-- a side with one part changed
abbrev pub with_sum : SideState → ℕ → SideState
with_sum x n =
    record { fixed = x.fixed; sum = n; block_end = x.block_end; block_bypassable = x.block_bypassable; queues = x.queues; stamps = x.stamps; timers = x.timers; actions = x.actions }

abbrev pub with_block : SideState → Option ℕ → Bool → SideState
with_block x end flag =
    record { fixed = x.fixed; sum = x.sum; block_end = end; block_bypassable = flag; queues = x.queues; stamps = x.stamps; timers = x.timers; actions = x.actions }

abbrev pub with_queues : SideState → Queues → SideState
with_queues x q =
    record { fixed = x.fixed; sum = x.sum; block_end = x.block_end; block_bypassable = x.block_bypassable; queues = q; stamps = x.stamps; timers = x.timers; actions = x.actions }

abbrev pub with_stamps : SideState → List (Held ℕ) → SideState
with_stamps x l =
    record { fixed = x.fixed; sum = x.sum; block_end = x.block_end; block_bypassable = x.block_bypassable; queues = x.queues; stamps = l; timers = x.timers; actions = x.actions }

abbrev pub with_timers : SideState → List (Option ℕ) → SideState
with_timers x l =
    record { fixed = x.fixed; sum = x.sum; block_end = x.block_end; block_bypassable = x.block_bypassable; queues = x.queues; stamps = x.stamps; timers = l; actions = x.actions }

abbrev pub with_actions : SideState → List (Option Action) → SideState
with_actions x l =
    record { fixed = x.fixed; sum = x.sum; block_end = x.block_end; block_bypassable = x.block_bypassable; queues = x.queues; stamps = x.stamps; timers = x.timers; actions = l }

-- the side named, and the state with that side changed
abbrev pub side : State → Side → SideState
side s client = s.client
side s server = s.server

abbrev pub with_side : State → Side → SideState → State
with_side s client x =
    record { settings = s.settings; client = x; server = s.server; aggregates = s.aggregates; free = s.free; ended = s.ended; rounds = s.rounds; room = s.room }
with_side s server x =
    record { settings = s.settings; client = s.client; server = x; aggregates = s.aggregates; free = s.free; ended = s.ended; rounds = s.rounds; room = s.room }

abbrev pub with_aggregates : State → List (Held Aggregate) → State
with_aggregates s v =
    record { settings = s.settings; client = s.client; server = s.server; aggregates = v; free = s.free; ended = s.ended; rounds = s.rounds; room = s.room }

abbrev pub with_ended : State → Bool → State
with_ended s v =
    record { settings = s.settings; client = s.client; server = s.server; aggregates = s.aggregates; free = s.free; ended = v; rounds = s.rounds; room = s.room }

abbrev pub with_rounds : State → ℕ → State
with_rounds s v =
    record { settings = s.settings; client = s.client; server = s.server; aggregates = s.aggregates; free = s.free; ended = s.ended; rounds = v; room = s.room }

abbrev pub with_free : State → List ℕ → State
with_free s v =
    record { settings = s.settings; client = s.client; server = s.server; aggregates = s.aggregates; free = v; ended = s.ended; rounds = s.rounds; room = s.room }

-- ---- records: taken from the head of the free ones and given back to it

-- the place that is taken next; 0 where none is free
abbrev pub free_place : List ℕ → ℕ
free_place l = get_or l 0 0

-- the round total: "the rounds made since opening". It is read here and raised by `counted` alone
abbrev pub total : State → ℕ
total s = s.rounds

-- ---- counts

-- how many slots hold something
abbrev pub held : {A : Type 0} → List (Option A) → ℕ
held [] = 0
held (none ∷ l) = held l
held (some a ∷ l) = 1 + held l

-- 1 for a value that is there
abbrev pub one : {A : Type 0} → Option A → ℕ
one none = 0
one (some a) = 1

-- the events in the four chains of a side
abbrev pub queued : SideState → ℕ
queued x = length x.queues.base + length x.queues.blocking + length x.queues.bypassable + length x.queues.internal

-- a side's part of used, and of reserved: "3 for each side with a block set, 1 for each timer held, 4 for each action held"
abbrev pub side_used : SideState → ℕ
side_used x = queued x + length x.stamps

abbrev pub side_reserved : SideState → ℕ
side_reserved x = 3 * one x.block_end + held x.timers + 4 * held x.actions

-- Used, a term of document 01: "records not free"
unfoldable pub used : State → ℕ
used s = side_used s.client + side_used s.server + length s.aggregates

-- Reserved, a term of document 01
unfoldable pub reserved : State → ℕ
reserved s = side_reserved s.client + side_reserved s.server

-- A, B, T and S of demand 3: "the aggregates in their chain, the sides with a block end, the slots that hold a timer, the slots that hold an
-- action, whatever their moments"
abbrev pub aggregates_pending : State → ℕ
aggregates_pending s = length s.aggregates

abbrev pub sides_blocked : State → ℕ
sides_blocked s = one s.client.block_end + one s.server.block_end

abbrev pub timers_held : State → ℕ
timers_held s = held s.client.timers + held s.server.timers

abbrev pub actions_held : State → ℕ
actions_held s = held s.client.actions + held s.server.actions

-- A + 3B + T + 4S
unfoldable pub rounds_left : State → ℕ
rounds_left s = aggregates_pending s + 3 * sides_blocked s + timers_held s + 4 * actions_held s
