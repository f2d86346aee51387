-- A round, and a choice: the round total counts the rounds made, with those to come they are bounded, and the room rule is kept.
use Rattle.std.specs.Prelude.{ℕ, ◌+◌, ◌≤◌, ◌≡◌, refl, true, if◌then◌else◌}
use Rattle.std.proofs.Common.{arith}
use Rattle.rules.specs.State.{State, with_ended, used, reserved, rounds_left}
use Rattle.rules.specs.Limits.{moment_limit}
use Rattle.rules.specs.ChoiceRound.{RoundOutcome, next, taken, nothing, passed}
use Rattle.rules.specs.Choice.{Called}
use Rattle.rules.specs.CallLists.{carried, is_refused}
use Rattle.laws.specs.Falls.{Stays, ended_kept}

-- a call, or the rest of one, from s to t: k rounds were made before, m in all; c is what it may add to the rounds still to come
pub record Ran (s t : State) (k m c : ℕ) : Type 0 where
  pub total : t.rounds + k ≡ s.rounds + m
  pub left : m + rounds_left t ≤ rounds_left s + k + c
  pub same : t.room ≡ s.room
  pub fixed : t.settings ≡ s.settings
  pub kept : used s + reserved s ≤ s.room → used t + reserved t ≤ t.room
  pub limit : s.rounds ≤ moment_limit → t.rounds ≤ moment_limit

-- what a round makes: one round more, unless it passed a limit; the last round of a choice is the one that the choice is allowed
abbrev pub Makes : State → RoundOutcome → Type 0
Makes s (next t) = Ran s t 0 1 0
Makes s (taken e t) = Ran s t 0 1 1
Makes s (nothing t) = Ran s t 0 1 1
Makes s (passed t) = Ran s t 0 0 0

-- the ended mark alone
pub ended_makes : (s : State) → Ran s (with_ended s true) 0 0 0
ended_makes s =
    let k : Stays s (with_ended s true) = ended_kept s in
    record { total = refl; left = omega arith; same = refl; fixed = refl; kept = λ g. omega arith; limit = λ g. g }

-- ---- the choice

-- what an answer is allowed: nothing where it refuses
abbrev pub Chosen : State → ℕ → Called → Type 0
Chosen s k d = Ran s d.state k (carried d.answer) (if is_refused d.answer then 0 else 1)
