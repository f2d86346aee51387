-- A round, and a choice, leave each record number as often as it was: what a round takes is reserved.
use Rattle.std.specs.Prelude.{ℕ, zero, suc, ◌+◌, ◌≤◌, ◌≡◌, refl, eqb, length, set, get_or}
use Rattle.std.proofs.Common.{ap, arith}
use mathlib.Core.List.{◌∷◌, tail, head?}
use Rattle.std.proofs.Math.Option.{none, some}
use Rattle.rules.specs.Basics.{Side}
use Rattle.rules.specs.State.{Event, Held, Action, ActionKind, SendPadding, BlockOutgoing, Aggregate, SideState, State, with_sum, with_block, side, with_side, with_aggregates, held, one, reserved, rounds_left}
use Rattle.rules.specs.Limits.{moment_limit}
use Rattle.rules.specs.Queueing.{push_event}
use Rattle.rules.specs.Aggregates.{add_aggregates}
use Rattle.rules.specs.ChoiceDelays.{Block}
use Rattle.rules.specs.ChoiceRound.{Slot, Candidate, an_aggregate, a_block, an_event, a_timer, an_action, none_left, RoundOutcome, next, taken, nothing, passed, raised_sum, take_aggregate, end_event, end_aggregates, clear_block, end_block, timer_event, no_timer, timer_cleared, no_action, sets_block, acted_side, acted_event, do_action, act, candidate, closed, fits, round_sums, round, action_in}
use Rattle.rules.specs.Choice.{rounds, settle, choose}
use Rattle.laws.specs.Branches.{by_if}
use Rattle.laws.specs.Counts.{aggregates_with, at_most_two, held_cleared}
use Rattle.laws.specs.Found.{Found, found}
use Rattle.laws.specs.Falls.{Kept, state_after, Cleared}
use Rattle.laws.proofs.Falls.{round_kept, block_cleared}
use Rattle.laws.specs.Sound.{Sound}
use Rattle.laws.specs.SoundRound.{round_sound}
use Rattle.laws.specs.Heads.{First, candidate_first}
use Rattle.laws.specs.Records.{weigh_free, weigh_list, weigh_side, weigh, Same, same_then, same_number, weigh_with, weigh_free_lem, weigh_aggregates, free_with, weigh_tail, push_same, add_same, take_same}
use Rattle.laws.specs.RecordsRound.{Chained, with_same, side_reserved_lem, ended_same}

aggregate_same : (s : State) (a : Held Aggregate) → head? s.aggregates ≡ some a → Same s (take_aggregate s a)
unfolding take_aggregate
aggregate_same s a h = λ w.
    let z : Side = a.value.side in
    let x : SideState = with_sum (side s z) (raised_sum s a.value) in
    let t : State = with_side s z x in
    let v : State = with_aggregates t (tail s.aggregates) in
    omega (arith, weigh_with w s z x, weigh_aggregates w t (tail s.aggregates), weigh_free_lem w v (a.place ∷ s.free), ap (weigh_free w) (free_with s z x), ap (weigh_list w) (aggregates_with s z x), weigh_tail w s.aggregates a h)

clear_same : (s : State) (now : ℕ) (k : Block) → 2 ≤ length s.free → Same s (clear_block s now k)
unfolding clear_block
clear_same s now k h =
    let x : SideState = with_block (side s k.side) none (side s k.side).block_bypassable in
    let t : State = with_side s k.side x in
    let two : length (end_aggregates s now k) ≤ 2 = at_most_two _ _ _ _ in
    same_then s t (add_aggregates t (end_aggregates s now k))
    (with_same s k.side x (λ w. refl))
    (add_same t (end_aggregates s now k) (omega (arith, ap length (free_with s k.side x))))

block_same : (s : State) (now : ℕ) (k : Block) → (side s k.side).block_end ≡ some k.end → reserved s ≤ length s.free → Same s (state_after (end_block s now k))
block_same s now k h r =
    let o : one (side s k.side).block_end ≡ 1 = ap one h in
    let three : 3 ≤ length s.free = omega (arith, side_reserved_lem s k.side) in
    let t : State = clear_block s now k in
    let c : Same s t = clear_same s now k (omega arith) in
    let m : Cleared s t = block_cleared s now k h in
    by_if
    (λ (v : RoundOutcome). Same s (state_after v))
    (eqb (side s k.side).fixed.reporting_delay 0)
    c
    (same_then s t (push_event t (end_event s now k)) c (push_same t (end_event s now k) (omega (arith, same_number s t c, m.more))))

timer_same : (s : State) (z : Slot) (t : ℕ) → get_or (side s z.side).timers z.machine none ≡ some t → reserved s ≤ length s.free → Same s (push_event (timer_cleared s z) (timer_event z t))
unfolding timer_cleared
timer_same s z t h r =
    let x : SideState = no_timer (side s z.side) z.machine in
    let u : State = with_side s z.side x in
    let less : suc (held x.timers) ≡ held (side s z.side).timers = held_cleared (side s z.side).timers z.machine h in
    same_then s u (push_event u (timer_event z t))
    (with_same s z.side x (λ w. refl))
    (push_same u (timer_event z t) (omega (arith, side_reserved_lem s z.side, ap length (free_with s z.side x))))

acted_chained : (k : ActionKind) (x : SideState) (a : Action) (m : ℕ) → Chained x (no_action (acted_side k x a) m)
acted_chained SendPadding x a m = λ w. refl
acted_chained BlockOutgoing x a m = λ w. by_if (λ (y : SideState). weigh_side w (no_action y m) ≡ weigh_side w x) (sets_block x a) refl refl

action_same : (s : State) (z : Slot) (a : Action) → action_in s z ≡ some a → reserved s ≤ length s.free → Same s (do_action s z a)
unfolding do_action
action_same s z a h r =
    let y : SideState = acted_side a.kind (side s z.side) a in
    let x : SideState = no_action y z.machine in
    let u : State = with_side s z.side x in
    let e : Event = acted_event a.kind y z a in
    let less : suc (held (set (side s z.side).actions z.machine none)) ≡ held (side s z.side).actions = held_cleared (side s z.side).actions z.machine h in
    same_then s u (push_event u e)
    (with_same s z.side x (acted_chained a.kind (side s z.side) a z.machine))
    (push_same u e (omega (arith, side_reserved_lem s z.side, ap length (free_with s z.side x))))

act_same : (s : State) (now : ℕ) (c : Candidate) → Found s c → First s c → reserved s ≤ length s.free → Same s (state_after (act s now c))
act_same s now (an_aggregate a) f g r = aggregate_same s a f
act_same s now (a_block k) f g r = block_same s now k f r
act_same s now (an_event h) f g r = take_same s h g
act_same s now (a_timer z t) f g r = timer_same s z t f r
act_same s now (an_action z a) f g r = action_same s z a f r
act_same s now none_left f g r = λ w. refl

closed_same : (s : State) (o : RoundOutcome) → Same s (state_after o) → Same s (state_after (closed o))
unfolding weigh
closed_same s (next t) h = h
closed_same s (taken e t) h = h
closed_same s (nothing t) h = h
closed_same s (passed t) h = h

-- a round from a state whose reserved records are free
pub round_same : (s : State) (now : ℕ) → Sound s → reserved s ≤ length s.free → Same s (state_after (round s now))
unfolding round
round_same s now h r =
    by_if
    (λ (o : RoundOutcome). Same s (state_after o))
    (fits (round_sums s now (candidate s now)))
    (closed_same s (act s now (candidate s now)) (act_same s now (candidate s now) (found s now) (candidate_first s now h) r))
    (ended_same s)

rounds_same :
    (f now k : ℕ) (s : State) → Sound s → now ≤ moment_limit → reserved s ≤ length s.free → Same s (rounds f now k s).state
unfolding rounds
rounds_same zero now k s h n r = λ w. refl
rounds_same (suc f) now k s h n r =
    go (round s now) (round_kept s now) (round_sound s now h n) (round_same s now h r) (λ t g q. rounds_same f now (k + 1) t g n q)
  where
    go :
        (o : RoundOutcome) → Kept s o → Sound (state_after o) → Same s (state_after o)
        → ((t : State) → Sound t → reserved t ≤ length t.free → Same t (rounds f now (k + 1) t).state)
        → Same s (settle k (λ (t : State). rounds f now (k + 1) t) o).state
    go (next t) m g q ih = same_then s t (rounds f now (k + 1) t).state q (ih t g (omega (arith, same_number s t q, m.room)))
    go (taken e t) m g q ih = q
    go (nothing t) m g q ih = q
    go (passed t) m g q ih = q

-- a choice
pub choose_same : (s : State) (now : ℕ) → Sound s → now ≤ moment_limit → reserved s ≤ length s.free → Same s (choose s now).state
unfolding choose
choose_same s now h n r = rounds_same (suc (rounds_left s)) now 0 s h n r
