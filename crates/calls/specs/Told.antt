-- A call with numbers: what they stand for, and its answer as a number. Assumes nothing.
use Rattle.std.specs.Prelude.{ℕ, ◌≡◌, Bool, not, List, Result, Ok, Err, eqb, if◌then◌else◌}
use Rattle.rules.specs.Basics.{Side, client, server}
use Rattle.rules.specs.Choice.{Answer, done, event, nothing_left, step_made, refused}
use Rattle.rules.specs.Arguments.{Call, EventIn, ActionIn}
use Rattle.rules.specs.ChoiceRound.{Slot}
use Rattle.event.specs.Answers.{number_of}
use Rattle.event.specs.declared.answer.Refusal.{Refusal}
use Rattle.simulator.specs.Outcome.{Outcome}

-- "0 is server or no, every other number client or yes"
abbrev pub is_set : ℕ → Bool
is_set n = not (eqb n 0)

abbrev pub side_for : ℕ → Side
side_for n = if is_set n then client else server

-- what is handed in
abbrev pub event_for : ℕ → ℕ → ℕ → ℕ → ℕ → ℕ → ℕ → ℕ → EventIn
event_for kind moment delay side padding bypass replace machine =
    record { kind = kind; moment = moment; delay = delay; side = side_for side; padding = is_set padding; bypass = is_set bypass; replace = is_set replace; machine = machine }

abbrev pub action_for : ℕ → ℕ → ℕ → ℕ → ℕ → ActionIn
action_for kind moment duration bypass replace = record { kind = kind; moment = moment; duration = duration; bypass = is_set bypass; replace = is_set replace }

abbrev pub slot_for : ℕ → ℕ → Slot
slot_for side machine = record { side = side_for side; machine = machine }

-- the number that crosses: 0 for done, else that of the refusal
abbrev pub number_in : Answer → ℕ
number_in done = 0
number_in (event e k) = 0
number_in (nothing_left k) = 0
number_in (step_made a f) = 0
number_in (refused n k) = n

-- the same of an answer in the code: of a push, a choice or a step
abbrev pub code_in : {T : Type 0} → Result T Refusal → ℕ
code_in (Ok x) = 0
code_in (Err r) = number_of r.reason

-- the call c on the words w: it keeps the promise of every call, and n is the number of its answer
pub record Told (w : List ℕ) (c : Call) (n : ℕ) (left : List ℕ) : Type 0 where
  pub answer : Answer
  pub outcome : Outcome w c answer left
  pub number : n ≡ number_in answer
