-- All records, written anew: the chains so far, and the free records. Assumes nothing.
use Rattle.std.specs.Prelude.{ℕ, suc, ◌+◌, ◌-◌, ◌*◌, ◌≤◌, ◌<◌, ◌≡◌, List, ◌++◌, length, get_or, take}
use Rattle.queue_event.specs.Chain.{Rec, contents}
use Rattle.layout.specs.Packed.{chain_words, used_to, used_words, zero_recs}
use Rattle.queue_event.specs.Rows.{Row}

-- what stands in chain k, where these are the heads and counts
unfoldable pub chains_of : List ℕ → List ℕ → List ℕ → ℕ → List Rec
chains_of rest heads counts k = contents rest (get_or counts k 0) (get_or heads k 0)

-- of each of the chains 1 to 11, its count of records is linked from its head
abbrev pub Rows : List ℕ → List ℕ → List ℕ → Type 0
Rows rest heads counts = (k : ℕ) → 1 ≤ k → k < 12 → Row rest (get_or counts k 0) (get_or heads k 0)

-- of write_chains: d chains are written, and the next record is place
pub record Writes (c : ℕ → List Rec) (out₀ out : List ℕ) (d place : ℕ) : Type 0 where
  pub most : d ≤ 11
  pub next : place ≡ suc (used_to c d)
  pub len : length out ≡ length out₀
  pub words : take (4 * used_to c d) out ≡ used_words c d

-- of write_free: n records from p on are left
pub record Zeroes (goal out₀ : List ℕ) (end : ℕ) (out : List ℕ) (n p : ℕ) : Type 0 where
  pub one : 1 ≤ p
  pub ends : p + n ≡ end
  pub fits : 4 * end ≤ length out + 4
  pub len : length out ≡ length out₀
  pub whole : take (4 * p - 4) out ++ chain_words p (zero_recs n) ≡ goal
