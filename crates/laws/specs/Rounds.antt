-- The rounds of a choice one by one, as `finished_states` has them: how many, what they leave, the room after each, and that fuel suffices.
use Rattle.std.specs.Prelude.{ℕ, ◌+◌, ◌≡◌, true, List, [], ◌∷◌, length}
use Rattle.rules.specs.Choice.{Answer, done, event, nothing_left, step_made, refused}
use Rattle.rules.specs.State.{State, with_ended}

-- ---- what a choice leaves

-- the last of the states from s on
abbrev pub last_of : State → List State → State
last_of s [] = s
last_of s (t ∷ l) = last_of t l

-- k rounds were made before s, and l are the states after each round that is finished from there: the answer has the number of them all, and
-- the state left is the last; number 10 marks it ended
abbrev pub LeavesLast : State → ℕ → List State → Answer → State → Type 0
LeavesLast s k l (event e j) t = (j ≡ k + length l) × (t ≡ last_of s l)
LeavesLast s k l (nothing_left j) t = (j ≡ k + length l) × (t ≡ last_of s l)
LeavesLast s k l (refused n j) t = (n ≡ 10) × (j ≡ k + length l) × (t ≡ with_ended (last_of s l) true)
LeavesLast s k l done t = ⊥
LeavesLast s k l (step_made a f) t = ⊥
