-- What the proved cases are written with: states to begin from, events, and what a call leaves. It holds no rule.
use Rattle.std.specs.Prelude.{ℕ, Bool, false, true, List, set}
use Rattle.std.proofs.Math.Option.{Option, none, some}
use Rattle.rules.specs.Contents.{values}
use Rattle.rules.specs.State.{Action, Aggregate, Event, Fixed, State, reserved, rounds_left, side, used, with_actions, with_block, with_rounds, with_side, with_sum, with_timers}
use Rattle.rules.specs.Choice.{Called, choose, event, nothing_left, refused, rounds, step_made, Answer}
use Rattle.rules.specs.Arguments.{Call, EventIn, sim_network_stack, set_action}
use Rattle.rules.specs.Basics.{Kind, Side, client, server, has_machine_no}
use Rattle.rules.specs.Aggregates.{add_aggregate, add_aggregates, aggregates_of, on_delayed, on_expire, on_replace}
use Rattle.rules.specs.ChoiceRound.{always_sums, candidate, action_cleared, clear_block, timer_cleared, do_action, fits, lift_event, round, round_sums, take_aggregate, take_event}
use Rattle.rules.specs.Calls.{call, work}
use Rattle.rules.specs.ChoiceDelays.{delays, offered}
use Rattle.rules.specs.ChoiceHeads.{earliest_blocked, earliest_of_side, first_by, head_as, passing_head, peek_queue, queue_head, side_head, waiting_head}
use Rattle.rules.specs.Opening.{open_refusal, opened, outside}
use Rattle.rules.specs.Queueing.{push_event, put_event}
use Rattle.rules.specs.Refusals.{refusal, table}
use Rattle.rules.specs.NetworkStep.{replace_by, stamp, step_padding, step_tunnel, step_for}
use Rattle.rules.specs.Effects.{timer_set}
use Rattle.rules.specs.CallLists.{after_all, answers}

-- what computes in a case: every rule
unfoldable pub rules : Unit {0}
unfolding has_machine_no choose rounds round candidate delays offered peek_queue queue_head side_head head_as first_by waiting_head passing_head earliest_of_side earliest_blocked always_sums round_sums fits rounds_left used reserved put_event push_event add_aggregate add_aggregates aggregates_of on_expire on_replace on_delayed take_aggregate clear_block lift_event take_event timer_cleared action_cleared stamp do_action timer_set opened step_for step_tunnel step_padding replace_by call work table refusal open_refusal outside
rules = tt

-- ---- states

-- delays 0, and two machines a side
abbrev pub two_machines : Fixed
two_machines = record { action_delay = 0; reporting_delay = 0; machines = 2 }

-- opened with a network delay, a network rate and a window, over 656 words: 100 records
abbrev pub open_with : ℕ → Option ℕ → ℕ → State
open_with d rate window =
    opened (record { settings = record { network_delay = d; network_rate = rate; queue_rate = none; window = window }; client = two_machines; server = two_machines }) 656

-- opened with a network delay alone
abbrev pub open_delay : ℕ → State
open_delay d = open_with d none 0

-- opened with every delay 0
abbrev pub fresh : State
fresh = open_delay 0

-- both sums
abbrev pub with_sums : State → ℕ → ℕ → State
with_sums s c r = with_side (with_side s client (with_sum s.client c)) server (with_sum s.server r)

-- a side blocked to an end, with its bypassable flag
abbrev pub blocked : State → Side → ℕ → Bool → State
blocked s z end flag = with_side s z (with_block (side s z) (some end) flag)

-- a timer, and an action, in a slot
abbrev pub with_timer : State → Side → ℕ → ℕ → State
with_timer s z m t = with_side s z (with_timers (side s z) (set (side s z).timers m (some t)))

abbrev pub with_action : State → Side → ℕ → Action → State
with_action s z m a = with_side s z (with_actions (side s z) (set (side s z).actions m (some a)))

-- an event, and an aggregate, queued in the first free record
abbrev pub queued_in : State → Event → State
queued_in s e = push_event s e

abbrev pub pending_in : State → Aggregate → State
pending_in s a = add_aggregate s a

-- ---- events and aggregates

-- no delay, no flag
abbrev pub plain : Kind → ℕ → Side → ℕ → Event
plain k t z m = record { kind = k; moment = t; delay = 0; side = z; padding = false; bypass = false; replace = false; machine = m }

abbrev pub aggregate : ℕ → ℕ → Side → Aggregate
aggregate t n z = record { moment = t; length = n; side = z }

-- handed in, no delay, no flag, machine 0
abbrev pub handed_in : ℕ → ℕ → Side → EventIn
handed_in k t z = record { kind = k; moment = t; delay = 0; side = z; padding = false; bypass = false; replace = false; machine = 0 }

-- handed in with its flags: padding, bypass, replace
abbrev pub flagged : ℕ → ℕ → Side → Bool → Bool → Bool → EventIn
flagged k t z p b r = record { kind = k; moment = t; delay = 0; side = z; padding = p; bypass = b; replace = r; machine = 0 }

-- a `BlockOutgoing` for machine 0 of a side, not bypassable: at a moment, for a duration
abbrev pub set_block : Side → ℕ → ℕ → Call
set_block z t d =
    set_action (record { side = z; machine = 0 }) (record { kind = 2; moment = t; duration = d; bypass = false; replace = false })

-- the same, bypassable
abbrev pub set_bypassable_block : Side → ℕ → ℕ → Call
set_bypassable_block z t d =
    set_action (record { side = z; machine = 0 }) (record { kind = 2; moment = t; duration = d; bypass = true; replace = false })

-- a network step of a client `TunnelSent`, which stamps its time
abbrev pub stamp_at : ℕ → Call
stamp_at t = sim_network_stack t (handed_in 0 t client)

-- ---- what calls answer, and what they leave

-- a network step: yes, with the moment at which the packet count falls or without one, and no
abbrev pub yes_falls : ℕ → Answer
yes_falls m = step_made true (some m)

abbrev pub yes_step : Answer
yes_step = step_made true none

abbrev pub no_step : Answer
no_step = step_made false none

-- an event after k rounds, and nothing left after k rounds; the round total was 0
abbrev pub an_event_in : Event → ℕ → State → Called
an_event_in e k s = record { answer = event e k; state = with_rounds s k }

abbrev pub nothing_in : ℕ → State → Called
nothing_in k s = record { answer = nothing_left k; state = with_rounds s k }

-- refused with the number, and the state as it was
abbrev pub refused_in : ℕ → State → Called
refused_in n s = record { answer = refused n 0; state = s }

-- what a list of calls answers, and after it the pending aggregates, the client's stamps and the client's bypassable flag
pub record Ran : Type 0 where
  pub answers : List Answer
  pub pending : List Aggregate
  pub stamps : List ℕ
  pub flag : Bool

abbrev pub ran : State → List Call → Ran
ran s l =
    let t : State = after_all s l in
    record { answers = answers s l; pending = values t.aggregates; stamps = values t.client.stamps; flag = t.client.block_bypassable }

abbrev pub seen : List Answer → List Aggregate → List ℕ → Bool → Ran
seen a p s f = record { answers = a; pending = p; stamps = s; flag = f }
