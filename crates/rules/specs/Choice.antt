-- Document 01, "One choice": `pick_next` as counted rounds, and what calls answer.
use Rattle.std.specs.Prelude.{◌+◌, suc, zero, ℕ, Bool}
use Rattle.std.proofs.Math.Option.{Option}
use Rattle.rules.specs.State.{Event, State, rounds_left}
use Rattle.rules.specs.ChoiceRound.{RoundOutcome, next, nothing, passed, round, taken}

-- what a call answers: done; an event or nothing left, with the rounds made; yes or no of a network step, with the moment at which the packet count
-- falls, where there is one; a refusal's number with the rounds finished
pub data Answer : Type 0 where
  done : Answer
  event : Event → ℕ → Answer
  nothing_left : ℕ → Answer
  step_made : Bool → Option ℕ → Answer
  refused : ℕ → ℕ → Answer

-- the answer and the state left
pub record Called : Type 0 where
  pub answer : Answer
  pub state : State

-- "A round is one pass through this; the answer carries their number": k rounds are finished, this is what the next one gave, and `on` goes on.
-- "Number 10 sets the ended mark. A choice then keeps its finished rounds"
abbrev pub settle : ℕ → (State → Called) → RoundOutcome → Called
settle k on (next s) = on s
settle k on (taken e s) = record { answer = event e (k + 1); state = s }
settle k on (nothing s) = record { answer = nothing_left (k + 1); state = s }
settle k on (passed s) = record { answer = refused 10 k; state = s }

-- at most f rounds more, k being finished
unfoldable pub rounds : ℕ → ℕ → ℕ → State → Called
rounds zero now k s = record { answer = nothing_left k; state = s }
rounds (suc f) now k s = settle k (λ (t : State). rounds f now (k + 1) t) (round s now)

-- `pick_next`. Its bound of one round more than A + 3B + T + 4S is never reached: crate laws, `enough`
unfoldable pub choose : State → ℕ → Called
choose s now = rounds (suc (rounds_left s)) now 0 s
