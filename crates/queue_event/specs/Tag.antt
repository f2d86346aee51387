-- The fields of a record's tag, and the tags of events, aggregates and stamps, as docs/LAYOUT.md has them. Assumes nothing.
use Rattle.std.specs.Prelude.{ℕ, zero, suc, ◌+◌, ◌*◌, ◌%◌, ◌/◌, Bool, true, false}

-- ---- fields

-- a record's chain number
abbrev pub mark_of : ℕ → ℕ
mark_of t = t % 16

abbrev pub kind_field : ℕ → ℕ
kind_field t = t / 16 % 16

abbrev pub padding_field : ℕ → ℕ
padding_field t = t / 256 % 2

abbrev pub bypass_field : ℕ → ℕ
bypass_field t = t / 512 % 2

abbrev pub replace_field : ℕ → ℕ
replace_field t = t / 1024 % 2

abbrev pub side_field : ℕ → ℕ
side_field t = t / 2048 % 2

abbrev pub machine_field : ℕ → ℕ
machine_field t = t / 4096 % 16

-- ---- flags and sides as fields

abbrev pub bit : Bool → ℕ
bit true = 1
bit false = 0

abbrev pub flag : ℕ → Bool
flag zero = false
flag (suc n) = true

-- the client is 0, the server 1
abbrev pub side_bit : Bool → ℕ
side_bit true = 0
side_bit false = 1

abbrev pub is_client : ℕ → Bool
is_client zero = true
is_client (suc n) = false

-- ---- tags

-- an event's, by chain, kind, padding, bypass, replace and machine
unfoldable pub event_tag : ℕ → ℕ → Bool → Bool → Bool → ℕ → ℕ
event_tag chain kind padding bypass replace machine = chain + 16 * kind + 256 * bit padding + 512 * bit bypass + 1024 * bit replace + 4096 * machine

-- a pending aggregate's, by whether it is the client's: 11 or 2,059
unfoldable pub aggregate_tag : Bool → ℕ
aggregate_tag client = 11 + 2048 * side_bit client

-- a stamp's is its chain number alone: 5 or 10
unfoldable pub stamp_tag : ℕ → ℕ
stamp_tag chain = chain
