-- Document 01, "An accepted state", of the lent words: which words are a state at all. Assumes nothing.
use Rattle.std.specs.Prelude.{ℕ, ◌+◌, ◌≤◌, ◌%◌, ◌/◌, ◌≡◌, List, length, take, drop}
use Rattle.rules.specs.State.{used, reserved}
use Rattle.layout.specs.Header.{Limited, SlotsOk}
use Rattle.layout.specs.Records.{chain_count, ChainsOk, counts_to}
use Rattle.layout.specs.Layout.{state_from}

-- "exactly 256 + 4R words of 64 bits, R from 1 to 65,535"
pub record SizeOk (n : ℕ) : Type 0 where
  pub least : 260 ≤ n
  pub most : n ≤ 262396
  pub whole : n % 4 ≡ 0

-- R, from the records
abbrev pub room : List ℕ → ℕ
room rs = length rs / 4

-- a header and the records after it: values inside their limits, slots, chains, "the counts add up to R", "Used + reserved never exceeds R", of the state that
-- they hold
pub record Good (h rs : List ℕ) : Type 0 where
  pub limits : Limited h
  pub slots : SlotsOk h
  pub chains : ChainsOk h rs
  pub counts : counts_to h chain_count ≡ room rs
  pub reserve : used (state_from h rs) + reserved (state_from h rs) ≤ room rs

-- the first 256 words are the header, then come the records
pub record Accepted (w : List ℕ) : Type 0 where
  pub size : SizeOk (length w)
  pub good : Good (take 256 w) (drop 256 w)
