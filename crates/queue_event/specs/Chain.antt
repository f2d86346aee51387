-- Chains of records: the chain of mark k with n records from record h, and what it holds. Assumes nothing.
use Rattle.std.specs.Prelude.{ℕ, zero, suc, ◌≡◌, Bool, true, false, List, [], ◌∷◌, map}
use Rattle.queue_event.specs.Words.{next_of, moment_of, length_of, tag_of, In}
use Rattle.queue_event.specs.Tag.{kind_field}
pub use Rattle.queue_event.specs.Tag.{mark_of}

abbrev pub pick : {A : Type 0} → Bool → A → A → A
pick true a b = a
pick false a b = b

-- a record's rank is its kind's number
abbrev pub rank_of : ℕ → ℕ
rank_of t = kind_field t

-- n records of mark k, linked from h, and then the end
unfoldable pub Chain : List ℕ → ℕ → ℕ → ℕ → Type 0
Chain rs k zero h = h ≡ 0
Chain rs k (suc n) h = In rs h × (mark_of (tag_of rs h) ≡ k) × Chain rs k n (next_of rs h)

-- what a record holds
pub record Rec : Type 0 where
  pub moment : ℕ
  pub size : ℕ
  pub tag : ℕ

unfoldable pub rec_at : List ℕ → ℕ → Rec
rec_at rs h = record { moment = moment_of rs h; size = length_of rs h; tag = tag_of rs h }

-- a record with its number
pub record Node : Type 0 where
  pub at : ℕ
  pub rec : Rec

-- the chain's records in order, each with its number
unfoldable pub nodes : List ℕ → ℕ → ℕ → List Node
nodes rs zero h = []
nodes rs (suc n) h = record { at = h; rec = rec_at rs h } ∷ nodes rs n (next_of rs h)

-- the chain of mark k from h has n records, and they are l
pub record Is (k : ℕ) (rs : List ℕ) (n h : ℕ) (l : List Node) : Type 0 where
  pub chain : Chain rs k n h
  pub held : nodes rs n h ≡ l

abbrev pub recs : List Node → List Rec
recs l = map (λ (x : Node). x.rec) l

abbrev pub contents : List ℕ → ℕ → ℕ → List Rec
contents rs n h = recs (nodes rs n h)
