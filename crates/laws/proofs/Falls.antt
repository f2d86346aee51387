-- A round never lets used + reserved grow, and one that does not end the choice lowers A + 3B + T + 4S.
use Rattle.std.specs.Prelude.{ℕ, zero, suc, ◌+◌, ◌≤◌, ◌<◌, ◌≡◌, refl, eqb, length, get_or}
use Rattle.std.proofs.Common.{ap, subst, arith}
use mathlib.Core.List.{List, ◌∷◌, tail, head?}
use Rattle.std.proofs.Math.Option.{none, some}
use Rattle.rules.specs.Basics.{Side}
use Rattle.rules.specs.State.{Event, Action, ActionKind, SendPadding, BlockOutgoing, Held, Aggregate, SideState, State, with_sum, with_block, side, with_side, with_aggregates, with_free, held, one, side_used, side_reserved, used, reserved, rounds_left}
use Rattle.rules.specs.ChoiceHeads.{Head}
use Rattle.rules.specs.Queueing.{push_event}
use Rattle.rules.specs.ChoiceDelays.{Block}
use Rattle.rules.specs.ChoiceRound.{Slot, Candidate, an_aggregate, a_block, an_event, a_timer, an_action, none_left, RoundOutcome, next, taken, nothing, passed, take_aggregate, raised_sum, clear_block, end_block, end_event, end_aggregates, lift_event, take_event, timer_cleared, no_timer, timer_event, no_action, sets_block, acted_side, acted_event, do_action, act, closed, candidate, round, round_sums, fits, action_in}
use Rattle.rules.specs.Choice.{rounds, settle}
use Rattle.laws.specs.Branches.{by_if}
use Rattle.laws.specs.Counts.{used_with, reserved_with, aggregates_with, rounds_left_is, used_push, reserved_push, aggregates_push, at_most_two, held_cleared, used_add, reserved_add, aggregates_add, used_aggregates, reserved_aggregates, used_free, reserved_free, length_tail}
use Rattle.laws.specs.Found.{Found, found}
use Rattle.laws.specs.Falls.{Falls, Stays, Kept, Cleared, acted_used, lift_kept, ended_kept, state_after}

aggregate_falls : (s : State) (a : Held Aggregate) → head? s.aggregates ≡ some a → Falls s (take_aggregate s a)
unfolding take_aggregate
aggregate_falls s a h =
    let z : Side = a.value.side in
    let x : SideState = with_sum (side s z) (raised_sum s a.value) in
    let t : State = with_side s z x in
    let u : used t ≡ used s = omega (arith, used_with s z x) in
    let r : reserved t ≡ reserved s = omega (arith, reserved_with s z x) in
    let l : suc (length (tail s.aggregates)) ≡ length s.aggregates = length_tail s.aggregates h in
    let ls : length t.aggregates ≡ length s.aggregates = ap length (aggregates_with s z x) in
    let v : State = with_aggregates t (tail s.aggregates) in
    let w : State = with_free v (a.place ∷ s.free) in
    let ru : reserved w ≡ reserved t = omega (arith, reserved_free v (a.place ∷ s.free), reserved_aggregates t (tail s.aggregates)) in
    record {
      room = omega (arith, used_free v (a.place ∷ s.free), used_aggregates t (tail s.aggregates));
      left = omega (arith, rounds_left_is s, rounds_left_is w);
    }

-- so it is where the block was set
pub block_cleared : (s : State) (now : ℕ) (k : Block) → (side s k.side).block_end ≡ some k.end → Cleared s (clear_block s now k)
unfolding clear_block
block_cleared s now k h =
    let x : SideState = with_block (side s k.side) none (side s k.side).block_bypassable in
    let t : State = with_side s k.side x in
    let new : List Aggregate = end_aggregates s now k in
    let two : length new ≤ 2 = at_most_two _ _ _ _ in
    let o : one (side s k.side).block_end ≡ 1 = ap one h in
    record {
      fewer = omega (arith, reserved_with s k.side x, reserved_add t new);
      more = omega (arith, used_with s k.side x, used_add t new);
      pending = omega (arith, aggregates_add t new, ap length (aggregates_with s k.side x));
    }

pushed_falls : (s t : State) (e : Event) → Cleared s t → Falls s (push_event t e)
pushed_falls s t e c =
    record {
      room = omega (arith, used_push t e, reserved_push t e);
      left = omega (arith, rounds_left_is s, rounds_left_is (push_event t e), reserved_push t e, ap length (aggregates_push t e));
    }

cleared_stays : (s t : State) → Cleared s t → Stays s t
cleared_stays s t c = record { room = omega arith; left = omega (arith, rounds_left_is s, rounds_left_is t) }

block_falls : (s : State) (now : ℕ) (k : Block) → (side s k.side).block_end ≡ some k.end → Kept s (end_block s now k)
block_falls s now k h =
    let c : Cleared s (clear_block s now k) = block_cleared s now k h in
    by_if
    (Kept s)
    (eqb (side s k.side).fixed.reporting_delay 0)
    (cleared_stays s (clear_block s now k) c)
    (pushed_falls s (clear_block s now k) (end_event s now k) c)

timer_falls : (s : State) (z : Slot) (t : ℕ) → get_or (side s z.side).timers z.machine none ≡ some t → Falls s (push_event (timer_cleared s z) (timer_event z t))
unfolding timer_cleared
timer_falls s z t h =
    let x : SideState = no_timer (side s z.side) z.machine in
    let c : State = with_side s z.side x in
    let e : Event = timer_event z t in
    let less : suc (held x.timers) ≡ held (side s z.side).timers = held_cleared (side s z.side).timers z.machine h in
    let u : used c ≡ used s = omega (arith, used_with s z.side x) in
    let r : suc (reserved c) ≡ reserved s = omega (arith, reserved_with s z.side x) in
    record {
      room = omega (arith, used_push c e, reserved_push c e);
      left = omega (arith, rounds_left_is s, rounds_left_is (push_event c e), reserved_push c e, ap length (aggregates_push c e), ap length (aggregates_with s z.side x));
    }

acted_reserved :
    (k : ActionKind) (x : SideState) (a : Action) (m : ℕ) → get_or x.actions m none ≡ some a
    → suc (side_reserved (no_action (acted_side k x a) m)) ≤ side_reserved x
acted_reserved SendPadding x a m h = omega (arith, held_cleared x.actions m h)
acted_reserved BlockOutgoing x a m h =
    by_if
    (λ (y : SideState). suc (side_reserved (no_action y m)) ≤ side_reserved x)
    (sets_block x a)
    (omega (arith, held_cleared x.actions m h))
    (omega (arith, held_cleared x.actions m h))

action_falls : (s : State) (z : Slot) (a : Action) → action_in s z ≡ some a → Falls s (do_action s z a)
unfolding do_action
action_falls s z a h =
    let y : SideState = acted_side a.kind (side s z.side) a in
    let x : SideState = no_action y z.machine in
    let c : State = with_side s z.side x in
    let e : Event = acted_event a.kind y z a in
    let xu : side_used x ≡ side_used (side s z.side) = acted_used a.kind (side s z.side) a z.machine in
    let xr : suc (side_reserved x) ≤ side_reserved (side s z.side) = acted_reserved a.kind (side s z.side) a z.machine h in
    let u : used c ≡ used s = omega (arith, used_with s z.side x) in
    let r : suc (reserved c) ≤ reserved s = omega (arith, reserved_with s z.side x) in
    record {
      room = omega (arith, used_push c e, reserved_push c e);
      left = omega (arith, rounds_left_is s, rounds_left_is (push_event c e), reserved_push c e, ap length (aggregates_push c e), ap length (aggregates_with s z.side x));
    }

event_kept : (s : State) (h : Head) → Stays s (take_event s h)
unfolding take_event used reserved rounds_left
event_kept s h = let k : Stays s (lift_event s h) = lift_kept s h in record { room = k.room; left = k.left }

act_kept : (s : State) (now : ℕ) (c : Candidate) → Found s c → Kept s (act s now c)
act_kept s now (an_aggregate a) f = aggregate_falls s a f
act_kept s now (a_block k) f = block_falls s now k f
act_kept s now (an_event h) f = event_kept s h
act_kept s now (a_timer z t) f = timer_falls s z t f
act_kept s now (an_action z a) f = action_falls s z a f
act_kept s now none_left f = record { room = omega arith; left = omega arith }

closed_kept : (s : State) (o : RoundOutcome) → Kept s o → Kept s (closed o)
unfolding used reserved rounds_left
closed_kept s (next t) h = record { room = h.room; left = h.left }
closed_kept s (taken e t) h = record { room = h.room; left = h.left }
closed_kept s (nothing t) h = record { room = h.room; left = h.left }
closed_kept s (passed t) h = h

-- a round, however it ends
pub round_kept : (s : State) (now : ℕ) → Kept s (round s now)
unfolding round
round_kept s now =
    by_if
    (Kept s)
    (fits (round_sums s now (candidate s now)))
    (closed_kept s (act s now (candidate s now)) (act_kept s now (candidate s now) (found s now)))
    (ended_kept s)

-- a round that does not end the choice lowers A + 3B + T + 4S
pub round_falls : (s : State) (now : ℕ) (t : State) → round s now ≡ next t → rounds_left t < rounds_left s
round_falls s now t h = (subst (Kept s) h (round_kept s now)).left

-- used + reserved never grows in a round
pub room_kept : (s : State) (now : ℕ) → used (state_after (round s now)) + reserved (state_after (round s now)) ≤ used s + reserved s
room_kept s now = go (round s now) (round_kept s now)
  where
    go : (o : RoundOutcome) → Kept s o → used (state_after o) + reserved (state_after o) ≤ used s + reserved s
    go (next t) k = k.room
    go (taken e t) k = k.room
    go (nothing t) k = k.room
    go (passed t) k = k.room

-- ---- the choice: any bound above A + 3B + T + 4S gives the same, so the bound that `choose` takes is never reached
pub enough : (f g now k : ℕ) (s : State) → rounds_left s < f → rounds_left s < g → rounds f now k s ≡ rounds g now k s
unfolding rounds
enough zero g now k s hf hg = absurd (omega arith)
enough (suc f) zero now k s hf hg = absurd (omega arith)
enough (suc f) (suc g) now k s hf hg =
    go (round s now) (round_kept s now) (λ t h. enough f g now (k + 1) t (omega arith) (omega arith))
  where
    go :
        (o : RoundOutcome) → Kept s o → ((t : State) → Falls s t → rounds f now (k + 1) t ≡ rounds g now (k + 1) t)
        → settle k (λ (t : State). rounds f now (k + 1) t) o ≡ settle k (λ (t : State). rounds g now (k + 1) t) o
    go (next t) h ih = ih t h
    go (taken e t) h ih = refl
    go (nothing t) h ih = refl
    go (passed t) h ih = refl
