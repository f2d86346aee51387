-- Document 02, M-100: the promise of packing, on the words of the state and of a second lent block. Assumes nothing.
use Rattle.std.specs.Prelude.{ℕ, ◌≡◌, List, length}
use Rattle.rules.specs.Choice.{Answer, done, refused}
use Rattle.layout.specs.Accepted.{SizeOk, Accepted}
use Rattle.layout.specs.Packed.{packed_words}

-- packing the words w into a second block that held v: the answer, and every word that the second block holds then. The words w stay: they are lent for
-- reading
pub record Packs (w v : List ℕ) (a : Answer) (left : List ℕ) : Type 0 where
  -- 1: "length isn't 256 + 4R"
  pub bad_length : (SizeOk (length w) → ⊥) → (a ≡ refused 1 0) × (left ≡ v)
  -- "A second block of another length gives 1."
  pub other_length : SizeOk (length w) → (length v ≡ length w → ⊥) → (a ≡ refused 1 0) × (left ≡ v)
  -- 2: "state not accepted"
  pub bad : SizeOk (length w) → length v ≡ length w → (Accepted w → ⊥) → (a ≡ refused 2 0) × (left ≡ v)
  -- "An ended state packs too, so 3 isn't given here"
  pub packs : Accepted w → length v ≡ length w → (a ≡ done) × (left ≡ packed_words w)
