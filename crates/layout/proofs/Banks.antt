-- The header as banks of words and the chains by number: what a store changes, and what it leaves. Assumes nothing.
use Prim.Native.Nat.{ℕ, ◌+◌, ◌*◌, ◌<◌, ◌≤◌}
use mathlib.Core.Path.{◌≡◌, refl}
use mathlib.Core.Bool.{Bool, true, false}
use mathlib.Core.List.{List, []}
use mathlib.Core.Logic.{◌⊎◌, inl, inr}
use native.Mathlib.Omega.{arith}
use native.Mathlib.Decide.{ℕ_discrete}
use lib.Dec.{ltb, eqb}
use lib.ListN.{length, get_or, set}
use lib.Seq.{get_or-set_same, get_or-set_other}
use borrow.Author.Tests.{ltb-true, ltb-false, eq-eqb, ne_eqb, lt-ltb, le-ltb}
use Rattle.std.specs.Prelude.{if◌then◌else◌}
use Rattle.queue_event.specs.Chain.{nodes}
use Rattle.layout.specs.Layout.{bank, chains}
use Rattle.layout.specs.Records.{chain_count, head_of, count_of}

-- a function changed at one place
abbrev pub upd : {A : Type 0} → (ℕ → A) → ℕ → A → ℕ → A
upd f i v j = if eqb j i then v else f j

pub by_points : {A : Type 0} (f g : ℕ → A) → ((i : ℕ) → f i ≡ g i) → f ≡ g
by_points f g p = λ d i. p i d

pub upd_same : {A : Type 0} (f : ℕ → A) (i : ℕ) (v : A) → upd f i v i ≡ v
upd_same f i v = rw (eq-eqb i i refl)

pub upd_other : {A : Type 0} (f : ℕ → A) (i : ℕ) (v : A) (j : ℕ) → (j ≡ i → ⊥) → upd f i v j ≡ f j
upd_other f i v j d = rw (ne_eqb j i d)

-- ---- a store into a bank, and past it

module _ (b n : ℕ) (h : List ℕ) where
  pub bank_in : (i v : ℕ) → i < n → b + n ≤ length h → bank b n (set h (b + i) v) ≡ upd (bank b n h) i v
  unfolding bank
  bank_in i v l e = by_points _ _ (λ j. go j (ℕ_discrete j i) (ltb j n) refl)
    where
      go : (j : ℕ) → Dec (j ≡ i) → (t : Bool) → ltb j n ≡ t → (if t then get_or (set h (b + i) v) (b + j) 0 else 0) ≡ upd (λ (x : ℕ). if ltb x n then get_or h (b + x) 0 else 0) i v j
      go j (yes q) true z = rw (q, eq-eqb i i refl) (get_or-set_same h (b + i) v 0 (omega arith))
      go j (yes q) false z = absurd (omega (arith, ltb-false j n z))
      go j (no q) true z = rw (ne_eqb j i q, z) (get_or-set_other h (b + i) (b + j) v 0 (λ e₁. q (omega arith)))
      go j (no q) false z = rw (ne_eqb j i q, z)

  pub bank_out : (i v : ℕ) → (i < b) ⊎ (b + n ≤ i) → bank b n (set h i v) ≡ bank b n h
  unfolding bank
  bank_out i v o = by_points _ _ (λ j. go j (ltb j n) refl o)
    where
      go : (j : ℕ) (t : Bool) → ltb j n ≡ t → (i < b) ⊎ (b + n ≤ i) → (if t then get_or (set h i v) (b + j) 0 else 0) ≡ (if t then get_or h (b + j) 0 else 0)
      go j true z (inl l) = get_or-set_other h i (b + j) v 0 (λ e. omega arith)
      go j true z (inr l) = get_or-set_other h i (b + j) v 0 (λ e. omega (arith, ltb-true j n z))
      go j false z o' = refl

pub chains_out : (h rs : List ℕ) (i v : ℕ) → (i < 24) ⊎ (48 ≤ i) → chains (set h i v) rs ≡ chains h rs
unfolding chains
chains_out h rs i v o = by_points _ _ (λ k. go k (ltb k chain_count) refl o)
  where
    go : (k : ℕ) (t : Bool) → ltb k chain_count ≡ t → (i < 24) ⊎ (48 ≤ i)
        → (if t then nodes rs (get_or (set h i v) (25 + 2 * k) 0) (get_or (set h i v) (24 + 2 * k) 0) else []) ≡ (if t then nodes rs (get_or h (25 + 2 * k) 0) (get_or h (24 + 2 * k) 0) else [])
    go k true z (inl l) = rw (get_or-set_other h i (25 + 2 * k) v 0 (λ e. omega arith), get_or-set_other h i (24 + 2 * k) v 0 (λ e. omega arith))
    go k true z (inr l) = rw (get_or-set_other h i (25 + 2 * k) v 0 (λ e. omega (arith, ltb-true k chain_count z)), get_or-set_other h i (24 + 2 * k) v 0 (λ e. omega (arith, ltb-true k chain_count z)))
    go k false z o' = refl

pub bank_at : (b n : ℕ) (h : List ℕ) (i : ℕ) → i < n → bank b n h i ≡ get_or h (b + i) 0
unfolding bank
bank_at b n h i l = rw (lt-ltb i n l)

pub chains_at : (h rs : List ℕ) (k : ℕ) → k < chain_count → chains h rs k ≡ nodes rs (count_of h k) (head_of h k)
unfolding chains
chains_at h rs k l = rw (lt-ltb k chain_count l)

pub chains_past : (h rs : List ℕ) (k : ℕ) → chain_count ≤ k → chains h rs k ≡ []
unfolding chains
chains_past h rs k l = rw (le-ltb k chain_count l)
