-- The window of stamps, as the rules have it. Assumes nothing.
use Rattle.std.specs.Prelude.{ℕ, ◌+◌, ◌-◌, ◌<◌, ◌≤◌, ◌≡◌, List, length, Option, Some, None}
use Rattle.std.proofs.Math.Option.{Option as RulesOption, none, some}
use Rattle.rules.specs.State.{Held}
use Rattle.rules.specs.NetworkStep.{stamps_kept, extra_over}
use Rattle.network.specs.declared.window.Filled.{Filled}

-- ---- the packet limit

abbrev pub limit_of : Option ℕ → RulesOption ℕ
limit_of None = none
limit_of (Some p) = some p

-- a limit is no 0
unfoldable pub Above : RulesOption ℕ → Type 0
Above none = Unit {0}
Above (some p) = 0 < p

pub record RatedAs (r : Option ℕ) (o : RulesOption ℕ) : Type 0 where
  pub is : limit_of r ≡ o
  pub above : Above (limit_of r)

-- ---- the stamps that go

-- how many go
abbrev pub evicted_count : ℕ → ℕ → List (Held ℕ) → ℕ
evicted_count window now l = length l - length (stamps_kept window now l)

-- ---- the window after a new stamp

-- what goes, and what the stamps left add with the new one; that is at most 65,536 times the longest window
pub record FilledAs (r : Filled) (window now : ℕ) (limit : RulesOption ℕ) (l : List (Held ℕ)) : Type 0 where
  pub stale : r.stale ≡ evicted_count window now l
  pub extra : r.extra.0 ≡ extra_over window (length (stamps_kept window now l) + 1) limit
  pub small : r.extra.0 ≤ 65_536_000_000_000_000
