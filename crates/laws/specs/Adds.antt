-- What each call but the choice adds to A + 3B + T + 4S.
use Rattle.std.specs.Prelude.{ℕ, zero, suc, ◌+◌, ◌≤◌, refl, List, [], ◌∷◌, length, set}
use Rattle.std.proofs.Common.{ap, arith}
use Rattle.std.proofs.Math.Option.{Option, none, some}
use Rattle.rules.specs.Basics.{Side, Kind}
use Rattle.rules.specs.State.{Event, ActionKind, SideState, State, side, with_side, with_timers, with_actions, held, rounds_left, side_reserved}
use Rattle.rules.specs.Queueing.{push_event}
use Rattle.rules.specs.ChoiceRound.{Slot}
use Rattle.rules.specs.Arguments.{EventIn, ActionIn, event_of, action_of}
use Rattle.rules.specs.Effects.{after_push, after_set_action, timer_set}
use Rattle.laws.specs.Counts.{reserved_with, aggregates_with, rounds_left_is, reserved_push, aggregates_push}
use Rattle.laws.specs.Steady.{Steady, push_steady, with_steady}

-- from s to t: R, settings, mark and round total stay, and A + 3B + T + 4S rises by at most c
pub record Adds (s t : State) (c : ℕ) : Type 0 where
  pub steady : Steady s t
  pub left : rounds_left t ≤ rounds_left s + c

pub nothing_added : (s : State) (c : ℕ) → Adds s s c
nothing_added s c = record { steady = record { rounds = refl; room = refl; settings = refl; ended = refl }; left = omega arith }

pub push_adds : (s t : State) (e : Event) (c : ℕ) → Adds s t c → Adds s (push_event t e) c
push_adds s t e c h =
    record {
      steady = push_steady s t e h.steady;
      left = omega (arith, h.left, rounds_left_is t, rounds_left_is (push_event t e), reserved_push t e, ap length (aggregates_push t e));
    }

-- one side given anew: what it reserves more is what is added
pub with_adds : (s : State) (z : Side) (x : SideState) (c : ℕ) → side_reserved x ≤ side_reserved (side s z) + c → Adds s (with_side s z x) c
with_adds s z x c h =
    record {
      steady = with_steady s z x;
      left = omega (arith, rounds_left_is s, rounds_left_is (with_side s z x), reserved_with s z x, ap length (aggregates_with s z x));
    }

-- a slot set holds at most one more, and one cleared no more
held_set : {A : Type 0} (l : List (Option A)) (m : ℕ) (a : A) → held (set l m (some a)) ≤ held l + 1
held_set [] m a = omega arith
held_set (none ∷ l) zero a = omega arith
held_set (some b ∷ l) zero a = omega arith
held_set (none ∷ l) (suc m) a = held_set l m a
held_set (some b ∷ l) (suc m) a = omega (arith, held_set l m a)

pub held_none : {A : Type 0} (l : List (Option A)) (m : ℕ) → held (set l m none) ≤ held l
held_none [] m = omega arith
held_none (none ∷ l) zero = omega arith
held_none (some b ∷ l) zero = omega arith
held_none (none ∷ l) (suc m) = held_none l m
held_none (some b ∷ l) (suc m) = omega (arith, held_none l m)

pub after_push_adds : (s : State) (r : EventIn) (k : Option Kind) → Adds s (after_push s r k) 0
after_push_adds s r none = nothing_added s 0
after_push_adds s r (some k) = push_adds s s (event_of r k) 0 (nothing_added s 0)

-- an action set adds 4, a timer set 1
pub after_set_adds : (s : State) (z : Slot) (r : ActionIn) (k : Option ActionKind) → Adds s (after_set_action s z r k) 4
after_set_adds s z r none = nothing_added s 4
after_set_adds s z r (some k) =
    with_adds
    s
    z.side
    (with_actions (side s z.side) (set (side s z.side).actions z.machine (some (action_of r k))))
    4
    (omega (arith, held_set (side s z.side).actions z.machine (action_of r k)))

pub set_timer_adds : (s : State) (z : Slot) (t : ℕ) → Adds s (timer_set s z t) 1
unfolding timer_set
set_timer_adds s z t =
    with_adds
    s
    z.side
    (with_timers (side s z.side) (set (side s z.side).timers z.machine (some t)))
    1
    (omega (arith, held_set (side s z.side).timers z.machine t))
