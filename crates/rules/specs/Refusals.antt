-- Document 01, "Numbers of a refusal": the rows 3 to 9 for each call, in the table's order. Rows 1 and 2 are of the lent words, 4 is of opening,
-- 10 comes after these.
use Rattle.std.specs.Prelude.{◌+◌, ℕ, Bool, ◌&&◌, ◌||◌, false, not, List, [], ◌∷◌, eqb, leb, ltb, if◌then◌else◌}
use Rattle.std.proofs.Math.Option.{Option, none, some}
use Rattle.rules.specs.Arguments.{ActionIn, Call, EventIn, action_kind_of, clear_action, clear_timer, kept_duration, pick_next, push, set_action, set_timer, sim_network_stack}
use Rattle.rules.specs.State.{ActionKind, State, reserved, side, used}
use Rattle.rules.specs.ChoiceRound.{Slot}
use Rattle.rules.specs.Effects.{after_push, after_set_action, after_step, timer_set}
use Rattle.rules.specs.Limits.{delay_limit, duration_limit, moment_limit}
use Rattle.rules.specs.Basics.{is_some, kind_of, has_machine_no}

-- the number of the first row that holds
abbrev pub first_of : List (ℕ × Bool) → Option ℕ
first_of [] = none
first_of ((n, t) ∷ l) = if t then some n else first_of l

-- 5: "machine, for an action, a timer or an event kind 2, 6, 8 or 9, not below its side's count"
abbrev pub no_machine : State → Slot → Bool
no_machine s z = leb (side s z.side).fixed.machines z.machine

abbrev pub event_no_machine : State → EventIn → Bool
event_no_machine s r = has_machine_no r.kind && no_machine s (record { side = r.side; machine = r.machine })

-- 7: "moment or length above its limit"; the duration that is ignored is none
abbrev pub event_too_large : EventIn → Bool
event_too_large r = ltb moment_limit r.moment || ltb delay_limit r.delay

abbrev pub action_too_large : ActionIn → Option ActionKind → Bool
action_too_large r none = false
action_too_large r (some k) = ltb moment_limit r.moment || ltb duration_limit (kept_duration k r.duration)

-- 8: "step of unpadded `TunnelSent` with delay above its moment"
abbrev pub delay_above_moment : EventIn → Bool
delay_above_moment r = eqb r.kind 0 && not r.padding && ltb r.moment r.delay

-- 9: "used + reserved would exceed R after the call, worked out as if no sum had an upper limit"
abbrev pub full : State → Bool
full s = ltb s.room (used s + reserved s)

-- the table. Number 6 is "event kind above 9, or action not `SendPadding` or `BlockOutgoing`"
unfoldable pub table : State → Call → List (ℕ × Bool)
table s (push r) =
    (3, s.ended)
    ∷ (5, event_no_machine s r)
    ∷ (6, ltb 9 r.kind)
    ∷ (7, event_too_large r)
    ∷ (9, full (after_push s r (kind_of r.kind)))
    ∷ []
table s (set_action z r) =
    (3, s.ended)
    ∷ (5, no_machine s z)
    ∷ (6, not (is_some (action_kind_of r.kind)))
    ∷ (7, action_too_large r (action_kind_of r.kind))
    ∷ (9, full (after_set_action s z r (action_kind_of r.kind)))
    ∷ []
table s (clear_action z) = (3, s.ended) ∷ (5, no_machine s z) ∷ []
table s (set_timer z t) =
    (3, s.ended)
    ∷ (5, no_machine s z)
    ∷ (7, ltb moment_limit t)
    ∷ (9, full (timer_set s z t))
    ∷ []
table s (clear_timer z) = (3, s.ended) ∷ (5, no_machine s z) ∷ []
table s (pick_next now) = (3, s.ended) ∷ (7, ltb moment_limit now) ∷ []
table s (sim_network_stack now e) =
    (3, s.ended)
    ∷ (5, event_no_machine s e)
    ∷ (6, ltb 9 e.kind)
    ∷ (7, ltb moment_limit now || event_too_large e)
    ∷ (8, delay_above_moment e)
    ∷ (9, full (after_step s now e (kind_of e.kind)).state)
    ∷ []

-- the number that refuses the call before its work, if any
unfoldable pub refusal : State → Call → Option ℕ
refusal s c = first_of (table s c)
