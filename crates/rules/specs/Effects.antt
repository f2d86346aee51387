-- What each call but the choice leaves if it is not refused. A kind that number 6 refuses changes nothing.
use Rattle.std.specs.Prelude.{ℕ, [], false, set}
use Rattle.std.proofs.Math.Option.{Option, none, some}
use Rattle.rules.specs.Arguments.{ActionIn, EventIn, action_of, event_of}
use Rattle.rules.specs.State.{ActionKind, State, side, with_actions, with_side, with_timers}
use Rattle.rules.specs.Basics.{Kind}
use Rattle.rules.specs.ChoiceRound.{Slot}
use Rattle.rules.specs.NetworkStep.{Stepped, step}
use Rattle.rules.specs.Queueing.{push_event}

-- push: the event is queued
abbrev pub after_push : State → EventIn → Option Kind → State
after_push s r none = s
after_push s r (some k) = push_event s (event_of r k)

-- "Setting replaces what the slot holds"
unfoldable pub timer_set : State → Slot → ℕ → State
timer_set s z t = with_side s z.side (with_timers (side s z.side) (set (side s z.side).timers z.machine (some t)))

abbrev pub after_set_action : State → Slot → ActionIn → Option ActionKind → State
after_set_action s z r none = s
after_set_action s z r (some k) =
    with_side s z.side (with_actions (side s z.side) (set (side s z.side).actions z.machine (some (action_of r k))))

-- the step, with what it answers and the sums that it forms
abbrev pub after_step : State → ℕ → EventIn → Option Kind → Stepped
after_step s now r none = record { answer = false; falls = none; state = s; sums = [] }
after_step s now r (some k) = step s now (event_of r k)
