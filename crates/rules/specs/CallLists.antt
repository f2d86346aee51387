-- Document 01, "A list of calls": what demand 3 speaks of. The calls are of any number, in any order, with any arguments, each on the state that
-- the call before it left.
use Rattle.std.specs.Prelude.{◌+◌, suc, zero, ℕ, Bool, ◌&&◌, false, not, true, List, [], ◌∷◌, eqb, leb, ltb, length, if◌then◌else◌}
use Rattle.std.proofs.Math.Option.{Option, none, some}
use Rattle.rules.specs.Choice.{Answer, done, event, nothing_left, refused, step_made}
use Rattle.rules.specs.Arguments.{Call, clear_action, clear_timer, pick_next, push, set_action, set_timer, sim_network_stack}
use Rattle.rules.specs.ChoiceRound.{RoundOutcome, next, nothing, passed, round, taken}
use Rattle.rules.specs.State.{SideState, State, queued, reserved, rounds_left, used}
use Rattle.rules.specs.ChoiceDelays.{action_moments}
use Rattle.rules.specs.Calls.{call}
use Rattle.rules.specs.Basics.{is_some}
use Rattle.rules.specs.Refusals.{refusal}

-- ---- the list

-- the state after a list of calls
abbrev pub after_all : State → List Call → State
after_all s [] = s
after_all s (c ∷ l) = after_all (call s c).state l

-- its answers
abbrev pub answers : State → List Call → List Answer
answers s [] = []
answers s (c ∷ l) = (call s c).answer ∷ answers (call s c).state l

-- ---- rounds

-- the state that a finished round leaves, and those of the rounds after it
abbrev pub finished : (State → List State) → RoundOutcome → List State
finished on (next t) = t ∷ on t
finished on (taken e t) = t ∷ []
finished on (nothing t) = t ∷ []
finished on (passed t) = []

-- the states after each round that a choice finishes, f rounds at most
unfoldable pub finished_states : ℕ → ℕ → State → List State
finished_states zero now s = []
finished_states (suc f) now s = finished (λ (t : State). finished_states f now t) (round s now)

-- the same with a bound that is never reached: demand 3 says so (simulator/specs/Demand, `every_round`)
abbrev pub round_states : State → ℕ → List State
round_states s now = finished_states (suc (rounds_left s)) now s

-- the passes of a call that no row from 3 to 9 refuses
abbrev pub work_rounds : State → Call → ℕ
work_rounds s (push r) = 0
work_rounds s (set_action z r) = 0
work_rounds s (clear_action z) = 0
work_rounds s (set_timer z t) = 0
work_rounds s (clear_timer z) = 0
work_rounds s (pick_next now) = length (round_states s now)
work_rounds s (sim_network_stack now r) = 0

-- "The rounds of a call are the passes that the rules above finish in it: 0 for all but a choice, and 0 for a refusal other than 10."
abbrev pub rounds_of : State → Call → ℕ
rounds_of s c = if is_some (refusal s c) then 0 else work_rounds s c

-- the rounds that an answer carries
abbrev pub carried : Answer → ℕ
carried done = 0
carried (event e k) = k
carried (nothing_left k) = k
carried (step_made a f) = 0
carried (refused n k) = k

-- ---- the allowance of demand 3: "for calls not refused, one for each choice, two for each network step, four for each action set and one for
-- each timer set"

abbrev pub is_refused : Answer → Bool
is_refused done = false
is_refused (event e k) = false
is_refused (nothing_left k) = false
is_refused (step_made a f) = false
is_refused (refused n k) = true

abbrev pub allowance_of : Call → ℕ
allowance_of (push r) = 0
allowance_of (set_action z r) = 4
allowance_of (clear_action z) = 0
allowance_of (set_timer z t) = 1
allowance_of (clear_timer z) = 0
allowance_of (pick_next now) = 1
allowance_of (sim_network_stack now r) = 2

-- ---- room: "A choice lacks room unless used + reserved is at most R as it begins and after each round it finishes."

abbrev pub has_room : State → Bool
has_room s = leb (used s + reserved s) s.room

abbrev pub all_have_room : List State → Bool
all_have_room [] = true
all_have_room (s ∷ l) = has_room s && all_have_room l

abbrev pub lacks_room : State → ℕ → Bool
lacks_room s now = not (all_have_room (s ∷ round_states s now))

-- ---- "nothing left": "no event was queued, no side blocked, and no action or timer stood at or after the given time"

-- "An event is queued if it stands in a base, blocking, bypassable or internal chain of either side."
abbrev pub no_event : State → Bool
no_event s = eqb (queued s.client + queued s.server) 0

-- "A side is blocked if it has a block end, even a past one."
abbrev pub no_block : State → Bool
no_block s = not (is_some s.client.block_end) && not (is_some s.server.block_end)

-- every moment in the slots is before now: "The given time is the choice's now."
abbrev pub all_before : ℕ → List (Option ℕ) → Bool
all_before now [] = true
all_before now (none ∷ l) = all_before now l
all_before now (some t ∷ l) = ltb t now && all_before now l

abbrev pub no_slot : ℕ → SideState → Bool
no_slot now x = all_before now (action_moments x) && all_before now x.timers

abbrev pub nothing_to_take : State → ℕ → Bool
nothing_to_take s now = no_event s && no_block s && no_slot now s.client && no_slot now s.server

abbrev pub says_nothing : Answer → Bool
says_nothing done = false
says_nothing (event e k) = false
says_nothing (nothing_left k) = true
says_nothing (step_made a f) = false
says_nothing (refused n k) = false
