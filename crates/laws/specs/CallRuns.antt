-- A call, refused or not: the round total, the bound on rounds, and the room rule.
use Rattle.std.specs.Prelude.{ℕ, ◌≡◌, refl, Bool, true, false, List, [], ◌∷◌, if◌then◌else◌}
use Rattle.std.proofs.Math.Option.{none, some-ne-none}
use Rattle.rules.specs.State.{State}
use Rattle.rules.specs.Choice.{Called}
use Rattle.rules.specs.Arguments.{Call}
use Rattle.rules.specs.Refusals.{first_of}
use Rattle.rules.specs.CallLists.{allowance_of, carried, is_refused}
use Rattle.laws.specs.Runs.{Ran}

-- every test of the table failed
abbrev pub AllFalse : List (ℕ × Bool) → Type 0
AllFalse [] = Unit
AllFalse ((n, t) ∷ l) = (t ≡ false) × AllFalse l

-- no row holds where none is first
pub none_met : (l : List (ℕ × Bool)) → first_of l ≡ none → AllFalse l
none_met [] h = tt
none_met ((n, true) ∷ l) h = absurd (some-ne-none n h)
none_met ((n, false) ∷ l) h = (refl, none_met l h)

-- the call c from s: the rounds that its answer carries, and what it is allowed, nothing where it is refused
abbrev pub CallRan : State → Call → Called → Type 0
CallRan s c d = Ran s d.state 0 (carried d.answer) (if is_refused d.answer then 0 else allowance_of c)
