-- Document 01, "One choice": one round of `pick_next`. What it takes up, what it makes of it, and the sums that it forms.
use Rattle.std.specs.Prelude.{◌+◌, ◌-◌, max, suc, ℕ, Bool, ◌&&◌, ◌||◌, false, true, eqb, leb, ltb, get_or, set, if◌then◌else◌}
use mathlib.Core.List.{List, [], ◌++◌, ◌∷◌, head?, map, tail}
use Rattle.std.proofs.Math.Option
use Rattle.std.proofs.Math.Option.{Option, none, some}
use Rattle.rules.specs.State.{Action, ActionKind, Aggregate, BlockOutgoing, Chain, Event, Held, SendPadding, SideState, State, queue, side, total, with_actions, with_aggregates, with_block, with_ended, with_free, with_queue, with_queues, with_rounds, with_side, with_sum, with_timers}
use Rattle.rules.specs.ChoiceDelays.{Block, Delays, action_moments, delays, next_block, offered}
use Rattle.rules.specs.Basics.{BlockingBegin, BlockingEnd, Delay, PaddingSent, Side, TimerEnd, ◌≤ᵈ◌, absent, after, client, server}
use Rattle.rules.specs.ChoiceHeads.{Head, is_base, waiting_head}
use Rattle.rules.specs.Aggregates.{add_aggregates, aggregates_of, base_moment, on_expire, some_sum}
use Rattle.rules.specs.Limits.{moment_limit}
use Rattle.rules.specs.Queueing.{push_event}

-- ---- slots

-- a machine of a side
pub record Slot : Type 0 where
  pub side : Side
  pub machine : ℕ

-- the lowest machine whose slot has the moment t
abbrev pub slot_at : ℕ → List (Option ℕ) → Option ℕ
slot_at t [] = none
slot_at t (none ∷ l) = Option.map suc (slot_at t l)
slot_at t (some u ∷ l) = if eqb u t then some 0 else Option.map suc (slot_at t l)

-- "client first, then lowest machine"
abbrev pub slot_of : Option ℕ → Option ℕ → Option Slot
slot_of (some m) r = some (record { side = client; machine = m })
slot_of none (some m) = some (record { side = server; machine = m })
slot_of none none = none

-- ---- what the round takes up

pub data Candidate : Type 0 where
  an_aggregate : Held Aggregate → Candidate
  a_block : Block → Candidate
  an_event : Head → Candidate
  a_timer : Slot → ℕ → Candidate
  an_action : Slot → Action → Candidate
  none_left : Candidate

abbrev pub or_none : {A : Type 0} → (A → Candidate) → Option A → Candidate
or_none f none = none_left
or_none f (some a) = f a

-- the timer that is due after the delay
abbrev pub timer_slot : State → ℕ → Option Slot
timer_slot s t = slot_of (slot_at t s.client.timers) (slot_at t s.server.timers)

abbrev pub due_timer : State → ℕ → Delay → Candidate
due_timer s now absent = none_left
due_timer s now (after d) = or_none (λ (z : Slot). a_timer z (now + d)) (timer_slot s (now + d))

-- the action that is due after the delay
abbrev pub action_slot : State → ℕ → Option Slot
action_slot s t = slot_of (slot_at t (action_moments s.client)) (slot_at t (action_moments s.server))

abbrev pub action_in : State → Slot → Option Action
action_in s z = get_or (side s z.side).actions z.machine none

abbrev pub action_from : State → Slot → Candidate
action_from s z = or_none (an_action z) (action_in s z)

abbrev pub due_action : State → ℕ → Delay → Candidate
due_action s now absent = none_left
due_action s now (after d) = or_none (action_from s) (action_slot s (now + d))

-- 1. "n not above the rest"
abbrev pub aggregate_first : Delays → Bool
aggregate_first d = d.n ≤ᵈ d.s && d.n ≤ᵈ d.i && d.n ≤ᵈ d.b && d.n ≤ᵈ d.q

-- 2. "b ≤ s, i, q"
abbrev pub block_first : Delays → Bool
block_first d = d.b ≤ᵈ d.s && d.b ≤ᵈ d.i && d.b ≤ᵈ d.q

-- 3. "q ≤ s, i"
abbrev pub event_first : Delays → Bool
event_first d = d.q ≤ᵈ d.s && d.q ≤ᵈ d.i

-- 4. "i ≤ s"
abbrev pub timer_first : Delays → Bool
timer_first d = d.i ≤ᵈ d.s

-- "All absent: nothing left. [..] Otherwise the first that fits". An absent delay is at most the ones after it only where they are absent too,
-- so the first that fits is absent only where all five are
abbrev pub first_fitting : State → ℕ → Delays → Candidate
first_fitting s now d =
    if aggregate_first d then or_none an_aggregate (head? s.aggregates)
    else if block_first d then or_none a_block (next_block s)
    else if event_first d then or_none an_event (offered s now)
    else if timer_first d then due_timer s now d.i else due_action s now d.s

unfoldable pub candidate : State → ℕ → Candidate
candidate s now = first_fitting s now (delays s now)

-- ---- what the round makes of it

-- on to the next round; an event is returned; nothing is left; a sum passed the limit
pub data RoundOutcome : Type 0 where
  next : State → RoundOutcome
  taken : Event → State → RoundOutcome
  nothing : State → RoundOutcome
  passed : State → RoundOutcome

-- 1. "drop that aggregate, add its length to its side's sum"
abbrev pub raised_sum : State → Aggregate → ℕ
raised_sum s a = (side s a.side).sum + a.length

-- its record is given back
unfoldable pub take_aggregate : State → Held Aggregate → State
take_aggregate s a =
    with_free
    (with_aggregates
    (with_side s a.value.side (with_sum (side s a.value.side) (raised_sum s a.value)))
    (tail s.aggregates))
    (a.place ∷ s.free)

-- 2. "Its end moment is now + b, so now for a block that ended earlier."
abbrev pub end_moment : ℕ → Block → ℕ
end_moment now k = now + (k.end - now)

-- "`BlockingEnd` at end moment + reporting delay"
abbrev pub end_event : State → ℕ → Block → Event
end_event s now k =
    let r : ℕ = (side s k.side).fixed.reporting_delay in
    record { kind = BlockingEnd; moment = end_moment now k + r; delay = r; side = k.side; padding = false; bypass = false; replace = false; machine = 0 }

-- "If the side's first waiting `TunnelSent` (either queue) is before the end moment, test for an aggregate":
-- its length, if there is one
abbrev pub held_up_length : SideState → ℕ → Option Head → Option ℕ
held_up_length x end none = none
held_up_length x end (some h) = if ltb h.moment end then on_expire x end h.moment else none

abbrev pub end_aggregates : State → ℕ → Block → List Aggregate
end_aggregates s now k =
    aggregates_of
    s.settings.network_delay
    k.side
    (end_moment now k)
    (held_up_length (side s k.side) (end_moment now k) (waiting_head false (side s k.side)))

-- "clear that block"; its bypassable flag stays
unfoldable pub clear_block : State → ℕ → Block → State
clear_block s now k =
    add_aggregates
    (with_side s k.side (with_block (side s k.side) none (side s k.side).block_bypassable))
    (end_aggregates s now k)

-- "returned if that delay is 0, else queued; next round"
abbrev pub end_block : State → ℕ → Block → RoundOutcome
end_block s now k =
    if eqb (side s k.side).fixed.reporting_delay 0 then taken (end_event s now k) (clear_block s now k)
    else next (push_event (clear_block s now k) (end_event s now k))

-- 3. "take the event (base: plus its side's sum), lift its moment to now + q if earlier, return it"
abbrev pub event_at : Event → ℕ → Event
event_at e t =
    record { kind = e.kind; moment = t; delay = e.delay; side = e.side; padding = e.padding; bypass = e.bypass; replace = e.replace; machine = e.machine }

abbrev pub shifted : SideState → Head → ℕ
shifted x h = if is_base h.chain then h.event.moment + x.sum else h.event.moment

abbrev pub taken_event : State → ℕ → Head → Event
taken_event s now h = event_at h.event (max (shifted (side s h.event.side) h) (now + (h.moment - now)))

abbrev pub pop_side : SideState → Chain → SideState
pop_side x c = with_queues x (with_queue x.queues c (tail (queue x.queues c)))

-- out of its chain, with its record
unfoldable pub lift_event : State → Head → State
lift_event s h = with_side s h.event.side (pop_side (side s h.event.side) h.chain)

-- and its record given back
unfoldable pub take_event : State → Head → State
take_event s h = with_free (lift_event s h) (h.place ∷ s.free)

-- 4. "clear the timer [..], queue `TimerEnd`": `do_internal_timer`
abbrev pub timer_event : Slot → ℕ → Event
timer_event z t =
    record { kind = TimerEnd; moment = t; delay = 0; side = z.side; padding = false; bypass = false; replace = false; machine = z.machine }

abbrev pub no_timer : SideState → ℕ → SideState
no_timer x m = with_timers x (set x.timers m none)

unfoldable pub timer_cleared : State → Slot → State
timer_cleared s z = with_side s z.side (no_timer (side s z.side) z.machine)

-- 5. "Clear the action, same order; queue `PaddingSent` or `BlockingBegin` as `do_scheduled_action` does"
abbrev pub no_action : SideState → ℕ → SideState
no_action x m = with_actions x (set x.actions m none)

unfoldable pub action_cleared : State → Slot → State
action_cleared s z = with_side s z.side (no_action (side s z.side) z.machine)

-- a block ends at moment + duration; it is set if it replaces, or ends after the one there is (after its own moment, if there is none)
abbrev pub sets_block : SideState → Action → Bool
sets_block x a = a.replace || ltb (Option.get_or x.block_end a.moment) (a.moment + a.duration)

abbrev pub acted_side : ActionKind → SideState → Action → SideState
acted_side SendPadding x a = x
acted_side BlockOutgoing x a = if sets_block x a then with_block x (some (a.moment + a.duration)) a.bypass else x

-- what is queued; `BlockingBegin` has the side's bypassable flag after the update
abbrev pub acted_event : ActionKind → SideState → Slot → Action → Event
acted_event SendPadding x z a =
    record { kind = PaddingSent; moment = a.moment; delay = x.fixed.action_delay; side = z.side; padding = true; bypass = a.bypass; replace = a.replace; machine = z.machine }
acted_event BlockOutgoing x z a =
    let d : ℕ = x.fixed.action_delay + x.fixed.reporting_delay in
    record { kind = BlockingBegin; moment = a.moment + d; delay = d; side = z.side; padding = false; bypass = x.block_bypassable; replace = false; machine = z.machine }

unfoldable pub do_action : State → Slot → Action → State
do_action s z a =
    let x : SideState = acted_side a.kind (side s z.side) a in
    push_event (with_side s z.side (no_action x z.machine)) (acted_event a.kind x z a)

-- the five cases, and nothing left
abbrev pub act : State → ℕ → Candidate → RoundOutcome
act s now (an_aggregate a) = next (take_aggregate s a)
act s now (a_block k) = end_block s now k
act s now (an_event h) = taken (taken_event s now h) (take_event s h)
act s now (a_timer z t) = next (push_event (timer_cleared s z) (timer_event z t))
act s now (an_action z a) = next (do_action s z a)
act s now none_left = nothing s

-- ---- the sums that the round forms: number 10

abbrev pub action_sums : ActionKind → SideState → Action → List ℕ
action_sums SendPadding x a = []
action_sums BlockOutgoing x a = (a.moment + a.duration) ∷ (a.moment + (x.fixed.action_delay + x.fixed.reporting_delay)) ∷ []

-- of each case. The moment now + b is the later of now and the block's end, and now + q of now and the head's moment, so neither can pass
abbrev pub candidate_sums : State → ℕ → Candidate → List ℕ
candidate_sums s now (an_aggregate a) = raised_sum s a.value ∷ []
candidate_sums s now (a_block k) = (end_event s now k).moment ∷ map (λ (a : Aggregate). a.moment) (end_aggregates s now k)
candidate_sums s now (an_event h) = []
candidate_sums s now (a_timer z t) = []
candidate_sums s now (an_action z a) = action_sums a.kind (side s z.side) a
candidate_sums s now none_left = []

-- "Sums formed in every round: base head plus sum, both sides, while any event is queued; a side without a base head forms none"; and the round total
unfoldable pub always_sums : State → List ℕ
always_sums s =
    (total s + 1)
    ∷ some_sum (base_moment s.client.sum s.client.queues.base)
    ++ some_sum (base_moment s.server.sum s.server.queues.base)

unfoldable pub round_sums : State → ℕ → Candidate → List ℕ
round_sums s now c = always_sums s ++ candidate_sums s now c

-- no sum passes 2^62 − 1
unfoldable pub fits : List ℕ → Bool
fits [] = true
fits (n ∷ l) = leb n moment_limit && fits l

-- ---- the round

-- one more round made: the round total rises here and nowhere else
abbrev pub counted : State → State
counted s = with_rounds s (total s + 1)

-- the outcome with its round counted
abbrev pub closed : RoundOutcome → RoundOutcome
closed (next s) = next (counted s)
closed (taken e s) = taken e (counted s)
closed (nothing s) = nothing (counted s)
closed (passed s) = passed s

-- a round that would form a sum above the limit is not finished, and leaves the state as it was, marked ended
unfoldable pub round : State → ℕ → RoundOutcome
round s now =
    let c : Candidate = candidate s now in
    if fits (round_sums s now c) then closed (act s now c) else passed (with_ended s true)
