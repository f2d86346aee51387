-- What a change leaves alone, and what taking the head of a chain leaves. Assumes nothing.
use Rattle.std.specs.Prelude.{ℕ, zero, suc, ◌<◌, ◌≡◌, List, [], ◌∷◌, length}
use Rattle.queue_event.specs.Words.{word, put, next_of, moment_of, length_of, tag_of, In}
use Rattle.queue_event.specs.Chain.{mark_of, Chain, rec_at, Node, nodes, Is}

-- record q has the same words in both
abbrev pub Same : List ℕ → List ℕ → ℕ → Type 0
Same rs rs' q = (i : ℕ) → i < 4 → word rs' q i ≡ word rs q i

-- every record of mark k has the same words in both
pub record Kept (k : ℕ) (rs rs' : List ℕ) : Type 0 where
  pub len : length rs' ≡ length rs
  pub same : (q : ℕ) → In rs q → mark_of (tag_of rs q) ≡ k → Same rs rs' q

-- every record but r has the same words in both
pub record Only (r : ℕ) (rs rs' : List ℕ) : Type 0 where
  pub len : length rs' ≡ length rs
  pub same : (q : ℕ) → In rs q → (q ≡ r → ⊥) → Same rs rs' q

-- a chain is the same in both
pub record Still (k n h : ℕ) (rs rs' : List ℕ) : Type 0 where
  pub chain : Chain rs' k n h
  pub held : nodes rs' n h ≡ nodes rs n h

-- every record of the n from h has the same words in both
unfoldable pub Agree : List ℕ → List ℕ → ℕ → ℕ → Type 0
Agree rs rs' zero h = Unit {0}
Agree rs rs' (suc n) h = Same rs rs' h × Agree rs rs' n (next_of rs h)

-- record q is not among these
unfoldable pub Off : List Node → ℕ → Type 0
Off [] q = Unit {0}
Off (x ∷ l) q = (x.at ≡ q → ⊥) × Off l q

-- ---- pop

-- record h at the front of the free chain, which began with free
unfoldable pub popped : List ℕ → ℕ → ℕ → List ℕ
popped rs h free = put (put rs h 0 free) h 3 0

abbrev pub node : List ℕ → ℕ → Node
node rs h = record { at = h; rec = rec_at rs h }

abbrev pub freed : List ℕ → ℕ → Node
freed rs h = record { at = h; rec = record { moment = moment_of rs h; size = length_of rs h; tag = 0 } }

pub record Popped (rs rs' : List ℕ) (h free next : ℕ) : Type 0 where
  pub len : length rs' ≡ length rs
  -- h is linked to what was free
  pub link : next_of rs' h ≡ free
  -- the chain of h goes on with its tail
  pub taken : (k n : ℕ) (x : Node) (l : List Node) → Is k rs (suc n) h (x ∷ l) → Is k rs' n next l
  -- the free chain has h in front
  pub given : (n : ℕ) (l : List Node) → Is 0 rs n free l → Is 0 rs' (suc n) h (freed rs h ∷ l)
  -- every other chain is as it was
  pub others : (k n a : ℕ) (l : List Node) → (mark_of (tag_of rs h) ≡ k → ⊥) → Is k rs n a l → Is k rs' n a l
