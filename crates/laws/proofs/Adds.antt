-- What each call but the choice adds to A + 3B + T + 4S.
use Rattle.std.specs.Prelude.{ℕ, ◌≤◌, List, length}
use Rattle.std.proofs.Common.{ap, arith}
use Rattle.std.proofs.Math.Option.{Option, none, some}
use Rattle.rules.specs.Basics.{Side, Kind, TunnelSent, NormalSent, PaddingSent, TunnelRecv, NormalRecv, PaddingRecv, BlockingBegin, BlockingEnd, TimerBegin, TimerEnd}
use Rattle.rules.specs.State.{Event, Held, Aggregate, SideState, State, side, with_side, with_stamps, rounds_left}
use Rattle.rules.specs.ChoiceHeads.{Head, waiting_head}
use Rattle.rules.specs.Queueing.{put_event}
use Rattle.rules.specs.Aggregates.{add_aggregates}
use Rattle.rules.specs.ChoiceRound.{lift_event}
use Rattle.rules.specs.NetworkStep.{Stepped, stamp, stamped, step_for, step_tunnel, step_padding, replace_by, replacing, as_padding}
use Rattle.rules.specs.Arguments.{EventIn, event_of}
use Rattle.rules.specs.Effects.{after_step}
use Rattle.laws.specs.Branches.{by_if}
use Rattle.laws.specs.Counts.{rounds_left_is, reserved_put, aggregates_put, at_most_two, reserved_add, aggregates_add}
use Rattle.laws.specs.Falls.{Stays, lift_kept}
use Rattle.laws.specs.Steady.{Steady, add_steady, lift_steady, put_steady}
use Rattle.laws.specs.Adds.{Adds, nothing_added, push_adds, with_adds}

put_adds : (s t : State) (e : Held Event) (c : ℕ) → Adds s t c → Adds s (put_event t e) c
put_adds s t e c h =
    record {
      steady = put_steady s t e h.steady;
      left = omega (arith, h.left, rounds_left_is t, rounds_left_is (put_event t e), reserved_put t e, ap length (aggregates_put t e));
    }

add_adds : (s t : State) (new : List Aggregate) → length new ≤ 2 → Adds s t 0 → Adds s (add_aggregates t new) 2
add_adds s t new n h =
    record {
      steady = add_steady s t new h.steady;
      left = omega (arith, h.left, rounds_left_is t, rounds_left_is (add_aggregates t new), reserved_add t new, aggregates_add t new);
    }

-- a step adds at most two aggregates
stamp_adds : (s : State) (z : Side) (now : ℕ) → Adds s (stamp s z now) 0
unfolding stamp rounds_left
stamp_adds s z now =
    let x : SideState = with_stamps (side s z) (stamped s.settings.window now (side s z).stamps s.free) in
    let a : Adds s (with_side s z x) 0 = with_adds s z x 0 (omega arith) in
    let g : Steady s (with_side s z x) = a.steady in
    record { steady = record { rounds = g.rounds; room = g.room; settings = g.settings; ended = g.ended }; left = a.left }

tunnel_adds : (s : State) (now : ℕ) (e : Event) → Adds s (step_tunnel s now e).state 2
unfolding step_tunnel
tunnel_adds s now e = push_adds s _ _ 2 (add_adds s _ _ (at_most_two _ _ _ _) (stamp_adds s e.side now))

lift_adds : (s : State) (h : Head) → Adds s (lift_event s h) 0
lift_adds s h = let k : Stays s (lift_event s h) = lift_kept s h in record { steady = lift_steady s h; left = omega arith }

replace_adds : (s : State) (now : ℕ) (h : Head) → Adds s (replace_by s now h).state 2
unfolding replace_by
replace_adds s now h = add_adds s _ _ (at_most_two _ _ _ _) (put_adds s (lift_event s h) _ 0 (lift_adds s h))

own_adds : (s : State) (e : Event) → Adds s (as_padding s e).state 2
own_adds s e = push_adds s s _ 2 (nothing_added s 2)

replacing_adds : (s : State) (now : ℕ) (e : Event) (o : Option Head) → Adds s (replacing s now e o).state 2
replacing_adds s now e none = own_adds s e
replacing_adds s now e (some h) =
    by_if
    (λ (r : Stepped). Adds s r.state 2)
    h.event.padding
    (own_adds s e)
    (by_if (λ (r : Stepped). Adds s r.state 2) e.bypass (replace_adds s now h) (nothing_added s 2))

padding_adds : (s : State) (now : ℕ) (e : Event) → Adds s (step_padding s now e).state 2
unfolding step_padding
padding_adds s now e =
    by_if
    (λ (r : Stepped). Adds s r.state 2)
    e.replace
    (replacing_adds s now e (waiting_head (side s e.side).block_bypassable (side s e.side)))
    (own_adds s e)

-- a step, kind by kind
pub step_adds : (s : State) (now : ℕ) (e : Event) (k : Kind) → Adds s (step_for k s now e).state 2
unfolding step_for
step_adds s now e TunnelSent = tunnel_adds s now e
step_adds s now e NormalSent = push_adds s s _ 2 (nothing_added s 2)
step_adds s now e PaddingSent = padding_adds s now e
step_adds s now e TunnelRecv = push_adds s s _ 2 (nothing_added s 2)
step_adds s now e NormalRecv = nothing_added s 2
step_adds s now e PaddingRecv = nothing_added s 2
step_adds s now e BlockingBegin = nothing_added s 2
step_adds s now e BlockingEnd = nothing_added s 2
step_adds s now e TimerBegin = nothing_added s 2
step_adds s now e TimerEnd = nothing_added s 2

-- as the calls hand their event in
pub after_step_adds : (s : State) (now : ℕ) (r : EventIn) (k : Option Kind) → Adds s (after_step s now r k).state 2
after_step_adds s now r none = nothing_added s 2
after_step_adds s now r (some k) = step_adds s now (event_of r k) k
