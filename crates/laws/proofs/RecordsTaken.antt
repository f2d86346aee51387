-- A round never lacks a free record: what it takes is reserved, and what is reserved is free.
use Rattle.std.specs.Prelude.{ℕ, ◌+◌, ◌≤◌, ◌≡◌, refl, true, Bool, false, eqb, length, if◌then◌else◌}
use Rattle.std.proofs.Common.{ap, arith}
use mathlib.Core.List.{◌∷◌, tail, head?}
use Rattle.std.proofs.Math.Option.{none, some}
use Rattle.rules.specs.Basics.{Side}
use Rattle.rules.specs.State.{Event, Held, Aggregate, SideState, State, with_sum, with_block, side, with_side, with_aggregates, one, reserved, Chain, base, blocking, bypassable, in_record, internal, queue, side_used, used}
use Rattle.rules.specs.Queueing.{push_event}
use Rattle.rules.specs.ChoiceDelays.{Block}
use Rattle.rules.specs.ChoiceRound.{Candidate, an_aggregate, a_block, an_event, a_timer, an_action, none_left, RoundOutcome, next, taken, nothing, passed, raised_sum, take_aggregate, end_event, end_aggregates, clear_block, end_block, timer_event, no_timer, timer_cleared, no_action, acted_side, acted_event, do_action, act, candidate, closed, fits, round_sums, round, lift_event, pop_side, take_event}
use Rattle.rules.specs.ChoiceHeads.{Head}
use Rattle.laws.specs.Branches.{by_if}
use Rattle.laws.specs.Counts.{aggregates_with, at_most_two, held_cleared, length_tail, used_add, used_aggregates, used_free, used_push, used_with}
use Rattle.laws.specs.Found.{Found, found}
use Rattle.laws.specs.Falls.{state_after, acted_used}
use Rattle.laws.specs.Heads.{First, candidate_first, HeadOf}
use Rattle.laws.specs.Accepted.{Accepted}
use Rattle.laws.specs.RecordsRound.{side_reserved_lem}
use Rattle.laws.specs.RecordsTaken.{free_reserved, records_taken, records_given}

-- what is taken was reserved for it
taken_reserved : (s : State) (now : ℕ) (c : Candidate) → Found s c → records_taken s now c ≤ reserved s
taken_reserved s now (an_aggregate a) f = omega arith
taken_reserved s now (a_block k) f =
    let o : one (side s k.side).block_end ≡ 1 = ap one f in
    let two : length (end_aggregates s now k) ≤ 2 = at_most_two _ _ _ _ in
    by_if
    (λ (n : ℕ). length (end_aggregates s now k) + n ≤ reserved s)
    (eqb (side s k.side).fixed.reporting_delay 0)
    (omega (arith, side_reserved_lem s k.side))
    (omega (arith, side_reserved_lem s k.side))
taken_reserved s now (an_event h) f = omega arith
taken_reserved s now (a_timer z t) f = omega (arith, held_cleared (side s z.side).timers z.machine f, side_reserved_lem s z.side)
taken_reserved s now (an_action z a) f = omega (arith, held_cleared (side s z.side).actions z.machine f, side_reserved_lem s z.side)
taken_reserved s now none_left f = omega arith

aggregate_used : (s : State) (a : Held Aggregate) → head? s.aggregates ≡ some a → used (take_aggregate s a) + 1 ≡ used s + 0
unfolding take_aggregate
aggregate_used s a h =
    let z : Side = a.value.side in
    let x : SideState = with_sum (side s z) (raised_sum s a.value) in
    let t : State = with_side s z x in
    let v : State = with_aggregates t (tail s.aggregates) in
    omega (arith, used_with s z x, used_aggregates t (tail s.aggregates), used_free v (a.place ∷ s.free), ap length (aggregates_with s z x), length_tail s.aggregates h)

clear_used : (s : State) (now : ℕ) (k : Block) → used (clear_block s now k) ≡ used s + length (end_aggregates s now k)
unfolding clear_block
clear_used s now k =
    let x : SideState = with_block (side s k.side) none (side s k.side).block_bypassable in
    omega (arith, used_with s k.side x, used_add (with_side s k.side x) (end_aggregates s now k))

block_used : (s : State) (now : ℕ) (k : Block) → used (state_after (end_block s now k)) + 0 ≡ used s + records_taken s now (a_block k)
block_used s now k = go (eqb (side s k.side).fixed.reporting_delay 0)
  where
    t : State
    t = clear_block s now k

    go :
        (b : Bool)
        → used (state_after (if b then taken (end_event s now k) t else next (push_event t (end_event s now k)))) + 0
        ≡ used s + (length (end_aggregates s now k) + (if b then 0 else 1))
    go true = omega (arith, clear_used s now k)
    go false = omega (arith, clear_used s now k, used_push t (end_event s now k))

popped_one : (x : SideState) (c : Chain) (e : Held Event) → head? (queue x.queues c) ≡ some e → side_used (pop_side x c) + 1 ≡ side_used x
popped_one x base e h = omega (arith, length_tail x.queues.base h)
popped_one x blocking e h = omega (arith, length_tail x.queues.blocking h)
popped_one x bypassable e h = omega (arith, length_tail x.queues.bypassable h)
popped_one x internal e h = omega (arith, length_tail x.queues.internal h)

event_used : (s : State) (h : Head) → HeadOf s (some h) → used (take_event s h) + 1 ≡ used s + 0
unfolding take_event lift_event
event_used s h g =
    let z : Side = h.event.side in
    let x : SideState = pop_side (side s z) h.chain in
    omega (arith, used_with s z x, used_free (with_side s z x) (h.place ∷ s.free), popped_one (side s z) h.chain (in_record h.place h.event) g)

-- that is what a round takes: it uses no more records than those, and one less where it gives one back
taken_used : (s : State) (now : ℕ) (c : Candidate) → Found s c → First s c → used (state_after (act s now c)) + records_given c ≡ used s + records_taken s now c
unfolding timer_cleared do_action
taken_used s now (an_aggregate a) f g = aggregate_used s a f
taken_used s now (a_block k) f g = block_used s now k
taken_used s now (an_event h) f g = event_used s h g
taken_used s now (a_timer z t) f g = omega (arith, used_push (timer_cleared s z) (timer_event z t), used_with s z.side (no_timer (side s z.side) z.machine))
taken_used s now (an_action z a) f g =
    let y : SideState = acted_side a.kind (side s z.side) a in
    let x : SideState = no_action y z.machine in
    omega (arith, used_push (with_side s z.side x) (acted_event a.kind y z a), used_with s z.side x, acted_used a.kind (side s z.side) a z.machine)
taken_used s now none_left f g = omega arith

-- the records that a round takes are at most the free ones
pub round_takes_free : (s : State) (now : ℕ) → Accepted s → records_taken s now (candidate s now) ≤ length s.free
round_takes_free s now h = omega (arith, taken_reserved s now (candidate s now) (found s now), free_reserved s h)

-- a round that is finished uses as many records more as it takes, less those that it gives back
pub round_takes :
    (s : State) (now : ℕ) → Accepted s → fits (round_sums s now (candidate s now)) ≡ true
    → used (state_after (round s now)) + records_given (candidate s now) ≡ used s + records_taken s now (candidate s now)
unfolding round used
round_takes s now h f =
    rw f (omega (arith, closed_used (act s now (candidate s now)), taken_used s now (candidate s now) (found s now) (candidate_first s now h.sound)))
  where
    closed_used : (o : RoundOutcome) → used (state_after (closed o)) ≡ used (state_after o)
    closed_used (next t) = refl
    closed_used (taken e t) = refl
    closed_used (nothing t) = refl
    closed_used (passed t) = refl
