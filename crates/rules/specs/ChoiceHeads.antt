-- Document 01, "One choice", q: the heads of the queues, which of them comes first, and what a block makes of it.
use Rattle.std.specs.Prelude.{◌+◌, ◌-◌, max, ℕ, Bool, ◌&&◌, ◌||◌, false, not, true, List, [], ◌∷◌, eqb, ltb, if◌then◌else◌}
use Rattle.std.proofs.Math.Option.{Option, get_or, map, none, some}
use Rattle.rules.specs.State.{Chain, Event, Held, SideState, State, base, blocking, bypassable, internal, side}
use Rattle.rules.specs.Basics.{Delay, ◌≤ᵈ◌, after, before, delay_to, is_some, is_tunnel_sent, rank}

-- the head of a chain, with its moment as the choice sees it: a base event's has its side's sum added
pub record Head : Type 0 where
  pub chain : Chain
  pub place : ℕ
  pub event : Event
  pub moment : ℕ

-- the head of chain c, plus being added to its moment
unfoldable pub head_as : Chain → ℕ → List (Held Event) → Option Head
head_as c plus [] = none
head_as c plus (e ∷ l) = some (record { chain = c; place = e.place; event = e.value; moment = e.value.moment + plus })

-- the first of two heads, unless the second is strictly earlier
unfoldable pub first_by : (Head → Head → Bool) → Option Head → Option Head → Option Head
first_by lt none b = b
first_by lt (some a) none = some a
first_by lt (some a) (some b) = if lt b a then some b else some a

-- "strictly earlier by (moment, rank)", a base event's moment with its side's sum
abbrev pub by_moment : Head → Head → Bool
by_moment a b = before a.moment (rank a.event.kind) b.moment (rank b.event.kind)

-- the same by the raw moment, without the sum
abbrev pub by_raw_moment : Head → Head → Bool
by_raw_moment a b = before a.event.moment (rank a.event.kind) b.event.moment (rank b.event.kind)

-- strictly earlier by (delay from now, rank)
abbrev pub by_delay : ℕ → Head → Head → Bool
by_delay now a b = before (a.moment - now) (rank a.event.kind) (b.moment - now) (rank b.event.kind)

-- the heads of a side's four chains
abbrev pub bypassable_head : SideState → Option Head
bypassable_head x = head_as bypassable 0 x.queues.bypassable

abbrev pub blocking_head : SideState → Option Head
blocking_head x = head_as blocking 0 x.queues.blocking

abbrev pub internal_head : SideState → Option Head
internal_head x = head_as internal 0 x.queues.internal

abbrev pub base_head : SideState → Option Head
base_head x = head_as base x.sum x.queues.base

-- "Per side: bypassable head; blocking if strictly earlier; internal if strictly earlier by (moment, rank); base if its moment plus that
-- side's sum, then rank, is not later": base, unless the others' first is strictly earlier. `EventQueue::peek`
unfoldable pub side_head : SideState → Option Head
side_head x = first_by by_moment (base_head x) (first_by by_moment (first_by by_moment (bypassable_head x) (blocking_head x)) (internal_head x))

-- "Client wins a tie in (delay, rank)." `SimQueue::peek`
unfoldable pub queue_head : State → ℕ → Option Head
queue_head s now = first_by (by_delay now) (side_head s.client) (side_head s.server)

-- ---- behind a block: `peek_queue_earliest_side`

-- `peek_blocking`: the first waiting `TunnelSent`; behind a bypassable block the bypassable queue does not wait
unfoldable pub waiting_head : Bool → SideState → Option Head
waiting_head flag x = if flag then blocking_head x else first_by by_moment (bypassable_head x) (blocking_head x)

-- `peek_non_blocking`: what the block does not hold back. It weighs bypassable against base by the raw moment
unfoldable pub passing_head : Bool → SideState → Option Head
passing_head flag x =
    let n : Option Head = first_by by_moment (base_head x) (internal_head x) in
    if flag then first_by by_raw_moment n (bypassable_head x) else n

-- whether a head is of base
abbrev pub is_base : Chain → Bool
is_base base = true
is_base blocking = false
is_base bypassable = false
is_base internal = false

-- a waiting head goes before a passing one if its moment is before, or level where that one is not of base
abbrev pub waiting_first : Head → Head → Bool
waiting_first w p = ltb w.moment p.moment || eqb w.moment p.moment && not (is_base p.chain)

-- a waiting packet goes when the block ends, at the earliest
abbrev pub not_before : ℕ → Head → Head
not_before t h = record { chain = h.chain; place = h.place; event = h.event; moment = max h.moment t }

-- the side value of `peek_queue_earliest_side`: a side without a block is asked too, with now for its block end
unfoldable pub earliest_of_side : ℕ → SideState → Option Head
earliest_of_side now x =
    first_by waiting_first
    (passing_head x.block_bypassable x)
    (map (not_before (get_or x.block_end now)) (waiting_head x.block_bypassable x))

-- a head's delay from now; absent where there is none
abbrev pub head_delay : ℕ → Option Head → Delay
head_delay now o = delay_to now (map (λ (h : Head). h.moment) o)

-- "the smaller side value of `peek_queue_earliest_side`, client on a tie"
unfoldable pub earliest_blocked : State → ℕ → Option Head
earliest_blocked s now =
    let c : Option Head = earliest_of_side now s.client in
    let r : Option Head = earliest_of_side now s.server in
    if head_delay now c ≤ᵈ head_delay now r then c else r

-- "a `TunnelSent` of a blocked side and not (bypass flag and that side's bypassable block)"
abbrev pub held_back : SideState → Event → Bool
held_back x e = is_tunnel_sent e.kind && is_some x.block_end && not (e.bypass && x.block_bypassable)

-- `peek_queue`: "If its delay exceeds min(s, i, b, n), q is absent." A head that is held back gives way to the earliest behind the blocks
abbrev pub peek_from : State → ℕ → Delay → Option Head → Option Head
peek_from s now least none = none
peek_from s now least (some h) =
    if after (h.moment - now) ≤ᵈ least then if held_back (side s h.event.side) h.event then earliest_blocked s now else some h
    else none

unfoldable pub peek_queue : State → ℕ → Delay → Option Head
peek_queue s now least = peek_from s now least (queue_head s now)
