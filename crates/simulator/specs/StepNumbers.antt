-- The rows 5 to 8 of a network step, which are tested before its plan is made. Assumes nothing.
use Rattle.std.specs.Prelude.{ℕ, ◌≡◌, Bool, ◌||◌, List, [], ◌∷◌, ltb, if◌then◌else◌}
use Rattle.std.proofs.Math.Option.{Option, some}
use Rattle.rules.specs.Limits.{moment_limit}
use Rattle.rules.specs.State.{State}
use Rattle.rules.specs.Arguments.{EventIn}
use Rattle.rules.specs.Refusals.{first_of, event_no_machine, event_too_large, delay_above_moment}
use Rattle.layout.specs.Layout.{state_from, state_of}
use Rattle.simulator.specs.Numbers.{OneOrTwoOr}

-- machine, kind, limits, and a delay above the moment
abbrev pub step_rows : State → ℕ → EventIn → List (ℕ × Bool)
step_rows s now r = (5, event_no_machine s r) ∷ (6, ltb 9 r.kind) ∷ (7, ltb moment_limit now || event_too_large r) ∷ (8, delay_above_moment r) ∷ []

-- their number, on a header and whatever records come after it
abbrev pub StepNumber : List ℕ → ℕ → EventIn → Option ℕ → Type 0
StepNumber h now r o = (rs : List ℕ) → o ≡ first_of (step_rows (state_from h rs) now r)

-- the number of a step up to 8, on lent words
abbrev pub UpToEight : List ℕ → ℕ → EventIn → Option ℕ → Type 0
UpToEight w now r o = OneOrTwoOr w o (if (state_of w).ended then some 3 else first_of (step_rows (state_of w) now r))
