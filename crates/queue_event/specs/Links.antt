-- A new record linked into a chain after those that a test keeps in front of it: what inserting and appending have in common. Assumes nothing.
use Rattle.std.specs.Prelude.{ℕ, suc, ◌≡◌, Bool, List, [], ◌∷◌, length}
use Rattle.queue_event.specs.Words.{next_of, tag_of, In}
use Rattle.queue_event.specs.Chain.{pick, mark_of, Node, Is}

-- a new record
abbrev pub fresh : ℕ → ℕ → ℕ → ℕ → Node
fresh q m l t = record { at = q; rec = record { moment = m; size = l; tag = t } }

-- x after the records that are kept in front
unfoldable pub link_by : (Node → Bool) → Node → List Node → List Node
link_by keep x [] = x ∷ []
link_by keep x (y ∷ l) = pick (keep y) (y ∷ link_by keep x l) (x ∷ y ∷ l)

-- the number of the last record that is kept in front, and p where none is
unfoldable pub pred_by : (Node → Bool) → List Node → ℕ → ℕ
pred_by keep [] p = p
pred_by keep (y ∷ l) p = pick (keep y) (pred_by keep l y.at) p

-- record r is one of mark k
abbrev pub On : List ℕ → ℕ → ℕ → Type 0
On rs k r = In rs r × (mark_of (tag_of rs r) ≡ k)

-- the free record at place has joined chain k, which held x and holds f x
pub record Joined (k : ℕ) (f : List Node → List Node) (rs rs' : List ℕ) (head count place r : ℕ) : Type 0 where
  pub len : length rs' ≡ length rs
  pub got : (x : List Node) → Is k rs count head x → Is k rs' (suc count) r (f x)
  pub free : (n : ℕ) (y : Node) (x : List Node) → Is 0 rs (suc n) place (y ∷ x) → Is 0 rs' n (next_of rs place) x
  pub others : (j n a : ℕ) (x : List Node) → (j ≡ k → ⊥) → (j ≡ 0 → ⊥) → Is j rs n a x → Is j rs' n a x
