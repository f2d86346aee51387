-- Document 01, "An accepted state": "each record in one chain", as a fact of the lent words. Assumes nothing.
use Rattle.std.specs.Prelude.{ℕ, ◌<◌, ◌≡◌, List, [], ◌∷◌, map, ◌⊎◌, take, drop}
use Rattle.layout.specs.Records.{chain_count, chain_at}
use Rattle.layout.specs.Layout.{place_of}

-- r is in the list
unfoldable pub Has : ℕ → List ℕ → Type 0
Has r [] = ⊥
Has r (x ∷ l) = (x ≡ r) ⊎ Has r l

-- no number twice
unfoldable pub Distinct : List ℕ → Type 0
Distinct [] = Unit {0}
Distinct (x ∷ l) = (Has x l → ⊥) × Distinct l

-- the numbers of the records of chain k
abbrev pub places_in : List ℕ → ℕ → List ℕ
places_in w k = map place_of (chain_at (take 256 w) (drop 256 w) k)

-- record r stands in one chain, and there once
pub record StandsOnce (w : List ℕ) (r : ℕ) : Type 0 where
  pub chain : ℕ
  pub small : chain < chain_count
  pub there : Has r (places_in w chain)
  pub once : Distinct (places_in w chain)
  pub only : (j : ℕ) → j < chain_count → Has r (places_in w j) → j ≡ chain
