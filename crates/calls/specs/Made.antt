-- What one call of a row promises: the call, and its answer as sixteen words. Assumes nothing.
use Rattle.std.specs.Prelude.{ℕ, ◌/◌, ◌≡◌, Bool, false, ◌||◌, List, ◌∷◌, eqb, get_or, if◌then◌else◌}
use Rattle.rules.specs.Choice.{Answer}
use Rattle.rules.specs.Arguments.{Call, pick_next}
use Rattle.simulator.specs.Outcome.{Outcome}
use Rattle.simulator.specs.Demand.{Made, Runs, words_after}
use Rattle.calls.specs.Told.{is_set}
use Rattle.calls.specs.Rows.{code_at, word_at, is_turn, bit, step_after, answer_words}
use Rattle.calls.specs.Listed.{calls_of, first_answer, row_words}

-- the call c on the words w
pub record CallMade (w : List ℕ) (c : Call) (words left : List ℕ) : Type 0 where
  pub answer : Answer
  pub outcome : Outcome w c answer left
  pub is : words ≡ answer_words c answer

-- a turn whose choice is at the time t
pub record TurnMade (w : List ℕ) (t : ℕ) (words left : List ℕ) : Type 0 where
  pub made : List Made
  pub runs : Runs w made
  pub calls : calls_of made ≡ pick_next t ∷ step_after (first_answer made)
  pub leaves : left ≡ words_after w made
  pub is : words ≡ row_words made

-- ---- read off the answer's words: word 0 is the number, 1 whether there is an event, 3 its kind, 4 its moment, 6 its side

-- whether a turn of this answer ends the list
abbrev pub ends_with : List ℕ → ℕ → Bool
ends_with words stop =
    is_set (get_or words 0 0) || (eqb (get_or words 1 0) 0 || bit (if eqb (get_or words 6 0) 0 then stop / 65536 else stop) (get_or words 3 0))

-- the moment of the last event chosen, after a choice or a turn of this answer
abbrev pub last_with : List ℕ → ℕ → ℕ
last_with words last = if eqb (get_or words 1 0) 0 then last else get_or words 4 0

-- the same of row i: only a turn ends the list, only a choice and a turn choose
abbrev pub ends_row : List ℕ → ℕ → List ℕ → Bool
ends_row rows i words = if is_turn (code_at rows i) then ends_with words (word_at rows i 2) else false

abbrev pub last_row : List ℕ → ℕ → List ℕ → ℕ → ℕ
last_row rows i words last = if eqb (code_at rows i) 5 || is_turn (code_at rows i) then last_with words last else last
