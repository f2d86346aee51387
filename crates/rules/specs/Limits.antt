-- Document 01, "Limits": the largest values that a state and a call may hold.
use Rattle.std.specs.Prelude.{◌*◌, ◌-◌, ◌^◌, ℕ}

-- moments, sums, aggregate lengths and the round total to 2^62 − 1
abbrev pub moment_limit : ℕ
moment_limit = 2 ^ 62 - 1

-- network, window, action and reporting delays and durations to 10^12
abbrev pub duration_limit : ℕ
duration_limit = 10 ^ 12

-- an event's delay to 2 · 10^12
abbrev pub delay_limit : ℕ
delay_limit = 2 * duration_limit

-- machines 0 to 16 a side
abbrev pub machine_limit : ℕ
machine_limit = 16

-- rates absent or 1 to 4,294,967,295
abbrev pub rate_limit : ℕ
rate_limit = 4_294_967_295

-- R from 1 to 65,535
abbrev pub record_limit : ℕ
record_limit = 65_535
