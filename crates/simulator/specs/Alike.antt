-- What the words that two results of one call leave have in common. Assumes nothing.
use Rattle.std.specs.Prelude.{ℕ, ◌<◌, ◌≡◌, List, length, get_or}
use Rattle.layout.specs.Layout.{state_of}
use Rattle.layout.specs.Spare.{Open}

-- one state, and every word but the moment, the length and the tag of free records: "What free records hold [..] we accept as open"
pub record Alike (left right : List ℕ) : Type 0 where
  pub size : length left ≡ length right
  pub state : state_of left ≡ state_of right
  pub words : (i : ℕ) → i < length left → (Open left i → ⊥) → get_or left i 0 ≡ get_or right i 0
