-- The header of a packed state, by the counts of its chains. Assumes nothing.
use Rattle.std.specs.Prelude.{ℕ, zero, suc, ◌+◌, ◌-◌, ◌≤◌, ◌<◌, ◌≡◌, List, eqb, length, get_or, map, if◌then◌else◌}
use Rattle.queue_event.specs.declared.chain.Entry.{Entry}
use Rattle.layout.specs.Records.{chain_count}
use Rattle.layout.specs.Packed.{header_word}

-- the heads and the counts of chains, each by itself
abbrev pub heads_of : List Entry → List ℕ
heads_of l = map (λ (c : Entry). c.head) l

abbrev pub counts_of : List Entry → List ℕ
counts_of l = map (λ (c : Entry). c.count) l

-- the records of chains 1 to k, from the counts of all
unfoldable pub sum_to : List ℕ → ℕ → ℕ
sum_to counts zero = 0
sum_to counts (suc k) = sum_to counts k + get_or counts (suc k) 0

-- the first of n records that stand from record p on; 0 for none
unfoldable pub first_for : ℕ → ℕ → ℕ
first_for p n = if eqb n 0 then 0 else p

-- the head of chain k: the chains 1 to 11 stand from record 1 on, then the free one
abbrev pub start_of : List ℕ → ℕ → ℕ
start_of counts zero = first_for (suc (sum_to counts (chain_count - 1))) (get_or counts 0 0)
start_of counts (suc k) = first_for (suc (sum_to counts k)) (get_or counts (suc k) 0)

-- word i of the header h, with these heads and counts
abbrev pub header_from : List ℕ → List ℕ → List ℕ → ℕ → ℕ
header_from h heads counts = header_word (λ (i : ℕ). get_or h i 0) (λ (k : ℕ). get_or heads k 0) (λ (k : ℕ). get_or counts k 0)

-- ---- what holds while the words are written

-- of start_chains: the heads of the chains 1 to d are there, and the next record is place
pub record Starts (counts starts : List ℕ) (d place : ℕ) : Type 0 where
  pub most : d ≤ 11
  pub long : length starts ≡ 12
  pub next : place ≡ suc (sum_to counts d)
  pub heads : (k : ℕ) → k < d → get_or starts (suc k) 0 ≡ start_of counts (suc k)

-- of write_header: the words below i are written
pub record HeaderTo (h heads counts out₀ out : List ℕ) (i : ℕ) : Type 0 where
  pub most : i ≤ 256
  pub len : length out ≡ length out₀
  pub words : (j : ℕ) → j < i → get_or out j 0 ≡ header_from h heads counts j
