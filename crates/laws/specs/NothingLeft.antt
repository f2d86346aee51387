-- "Nothing left" is answered exactly when the state that the choice began with is quiet.
use Rattle.std.specs.Prelude.{ℕ}
use Rattle.rules.specs.State.{State}
use Rattle.rules.specs.Choice.{Answer, done, event, nothing_left, step_made, refused}
use Rattle.laws.specs.Quiet.{Quiet}

-- ---- the choice: it answers nothing left only if the state it began with is quiet, an event only if it is not, and else it refuses

abbrev pub Says : State → ℕ → Answer → Type 0
Says s now (nothing_left k) = Quiet s now
Says s now (event e k) = Quiet s now → ⊥
Says s now done = ⊥
Says s now (step_made a f) = ⊥
Says s now (refused n k) = Unit
