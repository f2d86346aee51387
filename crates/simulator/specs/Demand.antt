-- Demand 3 of document 01, over any list of calls on lent words. It looks at no code: each call is related to the next by its promise alone.
use Rattle.std.specs.Prelude.{ℕ, ◌+◌, ◌<◌, ◌≤◌, ◌≡◌, false, List, [], ◌∷◌, ◌++◌, if◌then◌else◌}
use Rattle.rules.specs.State.{rounds_left, total}
use Rattle.rules.specs.Choice.{Answer}
use Rattle.rules.specs.Arguments.{Call, pick_next}
use Rattle.rules.specs.CallLists.{allowance_of, carried, finished_states, is_refused, lacks_room, nothing_to_take, round_states, rounds_of, says_nothing}
use Rattle.layout.specs.Accepted.{Accepted}
use Rattle.layout.specs.Layout.{state_of}
use Rattle.simulator.specs.Outcome.{Outcome, FreeRecords}
use Rattle.simulator.specs.Packs.{Packs}

-- ---- calls on the state

-- a call that was made: what was called, what it answered, and the words left
pub record Made : Type 0 where
  pub call : Call
  pub answer : Answer
  pub left : List ℕ

-- "each call works on the block that the call before it left"
abbrev pub Runs : List ℕ → List Made → Type 0
Runs w [] = Unit {0}
Runs w (x ∷ l) = Outcome w x.call x.answer x.left × Runs x.left l

-- the words after them
abbrev pub words_after : List ℕ → List Made → List ℕ
words_after w [] = w
words_after w (x ∷ l) = words_after x.left l

-- ---- the list of demand 3

-- a call that is lent the state and a second block: "a call with two blocks leaves the first as it is". Of the second, what it held and what it holds then
pub data Reading : Type 0 where
  pack : List ℕ → List ℕ → Reading

-- a call of the list: one on the state, or one beside it, with its answer
pub data Entry : Type 0 where
  on : Made → Entry
  beside : Reading → Answer → Entry

-- it keeps its promise
abbrev pub Promised : List ℕ → Entry → Type 0
Promised w (on x) = Outcome w x.call x.answer x.left
Promised w (beside (pack v u) a) = Packs w v a u

-- the words of the state that it leaves
abbrev pub left_by : List ℕ → Entry → List ℕ
left_by w (on x) = x.left
left_by w (beside b a) = w

-- "each call getting it as the last one left it"
abbrev pub Goes : List ℕ → List Entry → Type 0
Goes w [] = Unit {0}
Goes w (x ∷ l) = Promised w x × Goes (left_by w x) l

-- the words of the state after the list
abbrev pub left_after : List ℕ → List Entry → List ℕ
left_after w [] = w
left_after w (x ∷ l) = left_after (left_by w x) l

-- the rounds of a call, counted by the rules: one beside the state makes none
abbrev pub rounds_by : List ℕ → Entry → ℕ
rounds_by w (on x) = rounds_of (state_of w) x.call
rounds_by w (beside b a) = 0

-- the rounds made in the list
abbrev pub rounds_in : List ℕ → List Entry → ℕ
rounds_in w [] = 0
rounds_in w (x ∷ l) = rounds_by w x + rounds_in (left_by w x) l

-- "for calls not refused, one for each choice, two for each network step, four for each action set and one for each timer set"
abbrev pub allowed_to : Entry → ℕ
allowed_to (on x) = if is_refused x.answer then 0 else allowance_of x.call
allowed_to (beside b a) = 0

abbrev pub allowed : List Entry → ℕ
allowed [] = 0
allowed (x ∷ l) = allowed_to x + allowed l

-- its answer
abbrev pub answer_by : Entry → Answer
answer_by (on x) = x.answer
answer_by (beside b a) = a

-- the list l of calls made from the words w
pub record Demand (w : List ℕ) (l : List Entry) : Type 0 where
  -- the rounds are at most A + 3B + T + 4S at its start, and the allowance
  pub bound : rounds_in w l ≤ rounds_left (state_of w) + allowed l
  -- no round of a choice is left out of that count: it goes on for one round more than A + 3B + T + 4S as the choice begins (`round_states`), and
  -- with any larger bound f the rounds are the same, with the states that they leave
  pub every_round :
      (front rest : List Entry) (x : Made) (now f : ℕ) → l ≡ front ++ (on x ∷ rest) → x.call ≡ pick_next now → rounds_left (state_of (left_after w front)) < f
      → finished_states f now (state_of (left_after w front)) ≡ round_states (state_of (left_after w front)) now
  -- each answer carries exactly its call's own rounds, and the round total rises by the rounds of every call
  pub carries : (front rest : List Entry) (x : Entry) → l ≡ front ++ (x ∷ rest) → carried (answer_by x) ≡ rounds_by (left_after w front) x
  pub counts : total (state_of (left_after w l)) ≡ total (state_of w) + rounds_in w l
  -- no choice in it lacks room
  pub room :
      (front rest : List Entry) (x : Made) (now : ℕ) → l ≡ front ++ (on x ∷ rest) → x.call ≡ pick_next now → lacks_room (state_of (left_after w front)) now ≡ false
  -- a choice in it that is not refused says "nothing left" exactly when, as it began, there was nothing to take
  pub nothing :
      (front rest : List Entry) (x : Made) (now : ℕ) → l ≡ front ++ (on x ∷ rest) → x.call ≡ pick_next now → is_refused x.answer ≡ false
      → says_nothing x.answer ≡ nothing_to_take (state_of (left_after w front)) now
  -- the words left are accepted, and their free records form one chain, each in it once
  pub accepted : Accepted (left_after w l)
  pub free : FreeRecords (left_after w l)

-- Demand 3: "For every list of calls on one state (refused ones included, none of which opens it or writes it as a second lent block), from any
-- accepted state, each call getting it as the last one left it: the rounds made in the list, counted as demand 2's rules make them, are at most
-- A + 3B + T + 4S at its start, plus, for calls not refused, one for each choice, two for each network step, four for each action set and one for
-- each timer set. No choice in it lacks room. A choice in it that isn't refused says "nothing left" exactly when, as it began, no event was queued,
-- no side blocked, and no action or timer stood at or after the given time."
abbrev pub Demand3 : Type 0
Demand3 = (w : List ℕ) (l : List Entry) → Accepted w → Goes w l → Demand w l
