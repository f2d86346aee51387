-- An accepted state, apart from the words: sound, settings inside their limits, the room rule, and each record once.
use Rattle.std.specs.Prelude.{ℕ, ◌+◌, ◌≤◌, ◌≡◌, eqb, length, if◌then◌else◌}
use Rattle.std.proofs.Math.Option.{Option, none, some}
use Rattle.rules.specs.State.{State, Settings, used, reserved}
use Rattle.rules.specs.Limits.{moment_limit, duration_limit, rate_limit, record_limit}
use Rattle.laws.specs.Sound.{Sound}
use Rattle.laws.specs.Records.{weigh}

-- "rates absent or 1 to 4,294,967,295"
abbrev pub RateOk : Option ℕ → Type 0
RateOk none = Unit
RateOk (some p) = (1 ≤ p) × (p ≤ rate_limit)

-- network delay and window to 10^12
pub record SettingsOk (v : Settings) : Type 0 where
  pub network : v.network_delay ≤ duration_limit
  pub window : v.window ≤ duration_limit
  pub network_rate_fits : RateOk v.network_rate
  pub queue_rate_fits : RateOk v.queue_rate

-- every record is used or free
abbrev pub Whole : State → Type 0
Whole s = used s + length s.free ≡ s.room

-- 1 for the number r, 0 for any other
abbrev pub only : ℕ → ℕ → ℕ
only r p = if eqb p r then 1 else 0

-- how often the record r stands in the chains and among the free ones
abbrev pub times : ℕ → State → ℕ
times r s = weigh (only r) s

-- each record from 1 to R once
abbrev pub Once : State → Type 0
Once s = (r : ℕ) → 1 ≤ r → r ≤ s.room → times r s ≡ 1

-- acceptance apart from the words, as facts: "chains in order, all values inside their limits, slots at or above a side's machine count empty"
-- (sound, settings, size, total), "the room rule kept" (room), and "each record in one chain" (whole, once). "It may be marked ended."
pub record Accepted (s : State) : Type 0 where
  pub sound : Sound s
  pub settings : SettingsOk s.settings
  pub room : used s + reserved s ≤ s.room
  pub some_room : 1 ≤ s.room
  pub size : s.room ≤ record_limit
  pub total : s.rounds ≤ moment_limit
  pub whole : Whole s
  pub once : Once s
