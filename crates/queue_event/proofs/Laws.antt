-- Laws of words and chains. Assumes nothing.
use Prim.Native.Nat.{ℕ, zero, suc, ◌+◌, ◌-◌, ◌*◌, ◌≤◌, ◌<◌}
use native.Mathlib.Nat.{not-suc-le-zero}
use native.Mathlib.Numerals.{sub-one}
use native.Mathlib.Omega.{arith}
use mathlib.Core.Path.{◌≡◌}
use mathlib.Core.List.{List, [], ◌∷◌}
use lib.ListN.{length, length-set}
use lib.Seq.{get_or-set_same, get_or-set_other}
use Rattle.queue_event.specs.Words.{word, put, next_of, In}
use Rattle.queue_event.specs.Chain.{Chain, rec_at, Node, nodes}
use Rattle.queue_event.specs.Rows.{Row}

-- ---- words

pub length_put : (rs : List ℕ) (r i v : ℕ) → length (put rs r i v) ≡ length rs
unfolding put
length_put rs r i v = length-set rs (4 * r - 4 + i) v

pub in_put : {rs : List ℕ} {q : ℕ} (r i v : ℕ) → In rs q → In (put rs r i v) q
in_put {rs} {q} r i v h = record { one = h.one; fits = rw length_put h.fits }

pub word_put_same : (rs : List ℕ) (r i v : ℕ) → In rs r → i < 4 → word (put rs r i v) r i ≡ v
unfolding word put
word_put_same rs r i v h l = get_or-set_same rs (4 * r - 4 + i) v 0 (omega arith)

-- another word of the same record
pub word_put_field : (rs : List ℕ) (r i v j : ℕ) → (j ≡ i → ⊥) → word (put rs r i v) r j ≡ word rs r j
unfolding word put
word_put_field rs r i v j d = get_or-set_other rs (4 * r - 4 + i) (4 * r - 4 + j) v 0 (λ e. d (omega arith))

-- a word of another record
pub word_put_other : (rs : List ℕ) (r i v q j : ℕ) → 1 ≤ r → 1 ≤ q → i < 4 → j < 4 → (q ≡ r → ⊥) → word (put rs r i v) q j ≡ word rs q j
unfolding word put
word_put_other rs r i v q j a b li lj d = get_or-set_other rs (4 * r - 4 + i) (4 * q - 4 + j) v 0 (λ e. d (omega arith))

-- ---- a count that is not 0, and what is left of it

pub pred_is : (n : ℕ) → 0 < n → n ≡ suc (n - 1)
pred_is n h = omega arith

-- ---- chains

module _ (rs : List ℕ) (k : ℕ) where
  pub chain_in : (n h : ℕ) → 0 < n → Chain rs k n h → In rs h
  unfolding Chain
  chain_in zero h p c = absurd (not-suc-le-zero p)
  chain_in (suc n) h p c = c.0

  pub chain_next : (n h : ℕ) → 0 < n → Chain rs k n h → Chain rs k (n - 1) (next_of rs h)
  unfolding Chain
  chain_next zero h p c = absurd (not-suc-le-zero p)
  chain_next (suc n) h p c = rw sub-one c.2

pub nodes_none : (rs : List ℕ) (n h : ℕ) → n ≡ 0 → nodes rs n h ≡ []
unfolding nodes
nodes_none rs n h e = rw e

pub nodes_less : (l x : List Node) (y : Node) → l ≡ y ∷ x → length x < length l
nodes_less l x y e = rw e (omega arith)

pub nodes_next : (rs : List ℕ) (n h : ℕ) → 0 < n → nodes rs n h ≡ record { at = h; rec = rec_at rs h } ∷ nodes rs (n - 1) (next_of rs h)
unfolding nodes
nodes_next rs zero h p = absurd (not-suc-le-zero p)
nodes_next rs (suc n) h p = rw sub-one

-- ---- rows

pub chain_row : (rs : List ℕ) (k n h : ℕ) → Chain rs k n h → Row rs n h
unfolding Chain Row
chain_row rs k zero h c = tt
chain_row rs k (suc n) h c = (c.0, chain_row rs k n (next_of rs h) c.2)

pub row_in : (rs : List ℕ) (n h : ℕ) → 0 < n → Row rs n h → In rs h
unfolding Row
row_in rs zero h p r = absurd (not-suc-le-zero p)
row_in rs (suc n) h p r = r.0

row_next : (rs : List ℕ) (n h : ℕ) → 0 < n → Row rs n h → Row rs (n - 1) (next_of rs h)
unfolding Row
row_next rs zero h p r = absurd (not-suc-le-zero p)
row_next rs (suc n) h p r = rw sub-one r.1

-- one step along it, as the code goes: from the record `at`, which is h, to m records from g on
module _ (rs rs' : List ℕ) (n h at m g : ℕ) (p : 0 < n) (ea : at ≡ h) (er : rs' ≡ rs) (em : m ≡ n - 1) (eg : g ≡ next_of rs' at) where
  pub row_step : Row rs n h → Row rs m g
  row_step r = rw (em, eg, er, ea) (row_next rs n h p r)

  pub nodes_step : nodes rs n h ≡ record { at = at; rec = rec_at rs at } ∷ nodes rs m g
  nodes_step = rw (em, eg, er, ea) (nodes_next rs n h p)

-- ---- a walk: i of c records are behind it

pub chain_turn : (rs : List ℕ) (k c i h : ℕ) → i < c → Chain rs k (c - i) h → Chain rs k (c - (i + 1)) (next_of rs h)
chain_turn rs k c i h l x = let e : c - (i + 1) ≡ c - i - 1 = omega arith in rw e (chain_next rs k (c - i) h (omega arith) x)
