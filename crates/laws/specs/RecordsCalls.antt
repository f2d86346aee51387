-- Every call leaves each record number as often as it was: what a network step leaves fits into the records there are.
use Rattle.std.specs.Prelude.{ℕ, ◌+◌, ◌≤◌, length}
use Rattle.rules.specs.State.{State, used}
use Rattle.laws.specs.Records.{Same}

-- ---- the network step: what it leaves fits into the records there are

-- used and free records together
abbrev pub records : State → ℕ
records s = used s + length s.free

-- t has the same records as s if what it uses is there
abbrev pub Fitting : State → State → Type 0
Fitting s t = used t ≤ records s → Same s t
