-- All records written: chain after chain, then the free ones. Assumes nothing.
use Prim.Native.Nat.{ℕ, zero, suc, ◌+◌, ◌-◌, ◌*◌, ◌/◌, ◌≤◌, ◌<◌}
use mathlib.Core.Path.{◌≡◌, refl, sym, ap, ap₂, ◌∙◌}
use mathlib.Core.List.{List, [], ◌∷◌, ◌++◌, append_assoc, append-nil}
use native.Mathlib.Omega.{arith}
use lib.ListN.{length, get_or, take}
use lib.Seq.{take_all}
use borrow.Author.Tests.{ne_eqb}
use Rattle.queue_event.specs.Words.{filled, In}
use Rattle.queue_event.specs.Chain.{Rec, contents}
use Rattle.layout.specs.Packed.{first_of, chain_words, used_to, used_words, packed_records, zero_recs}
use Rattle.layout.proofs.PackedChains.{used_next, used_least, words_next, length_contents}
use Rattle.packing.specs.Copying.{link_of}
use Rattle.packing.specs.Writing.{chains_of, Writes, Zeroes}
use Rattle.packing.proofs.Copied.{take_filled, length_filled}

-- ---- the chains

chain_is : (rest heads counts : List ℕ) (k : ℕ) → chains_of rest heads counts k ≡ contents rest (get_or counts k 0) (get_or heads k 0)
unfolding chains_of
chain_is rest heads counts k = refl

pub chains_start : (c : ℕ → List Rec) (out : List ℕ) → Writes c out out 0 1
unfolding used_to used_words
chains_start c out = record { most = omega arith; next = refl; len = refl; words = refl }

module _ (rest heads counts out₀ out : List ℕ) (d place : ℕ) (w : Writes (chains_of rest heads counts) out₀ out d place) (l : d < 11) where
  abbrev c : ℕ → List Rec
  c = chains_of rest heads counts

  count_is : used_to c (suc d) ≡ used_to c d + get_or counts (suc d) 0
  count_is =
      used_next c d
      ∙ ap (λ k. used_to c d + k) (ap length (chain_is rest heads counts (suc d)) ∙ length_contents rest (get_or counts (suc d) 0) (get_or heads (suc d) 0))

  pub fit_next : 4 * used_to c 11 ≤ length out₀ → 4 * (place + get_or counts (suc d) 0) ≤ length out + 4
  fit_next f = omega (arith, w.next, w.len, f, count_is, used_least c (suc d) 11 (omega arith))

  pub turn_next :
      (out' : List ℕ) → length out' ≡ length out
      → take (4 * (place + get_or counts (suc d) 0) - 4) out'
      ≡ take (4 * place - 4) out ++ chain_words place (contents rest (get_or counts (suc d) 0) (get_or heads (suc d) 0))
      → Writes c out₀ out' (suc d) (place + get_or counts (suc d) 0)
  turn_next out' e t = turn e t
    where
      same : 4 * used_to c (suc d) ≡ 4 * (place + get_or counts (suc d) 0) - 4
      same = omega (arith, w.next, count_is)

      before : 4 * place - 4 ≡ 4 * used_to c d
      before = omega (arith, w.next)

      turn :
          length out' ≡ length out
          → take (4 * (place + get_or counts (suc d) 0) - 4) out'
          ≡ take (4 * place - 4) out ++ chain_words place (contents rest (get_or counts (suc d) 0) (get_or heads (suc d) 0))
          → Writes c out₀ out' (suc d) (place + get_or counts (suc d) 0)
      turn e' t' = record {
        most = omega arith;
        next = omega (arith, w.next, count_is);
        len = e' ∙ w.len;
        words =
            ap (λ k. take k out') same ∙ t'
            ∙ ap₂ (λ (x y : List ℕ). x ++ y) (ap (λ k. take k out) before ∙ w.words)
            (ap (λ k. chain_words k (contents rest (get_or counts (suc d) 0) (get_or heads (suc d) 0))) w.next)
            ∙ sym (words_next c d _ shut);
      }
        where
          shut : c (suc d) ≡ contents rest (get_or counts (suc d) 0) (get_or heads (suc d) 0)
          shut = chain_is rest heads counts (suc d)

-- ---- the free records

link_free : (n p : ℕ) → link_of (suc n) p ≡ first_of (suc p) (zero_recs n)
unfolding link_of
link_free zero p = refl
link_free (suc n) p = rw (ne_eqb (suc (suc n)) 1 (λ e. omega arith))

one_free : (n p : ℕ) → chain_words p (zero_recs (suc n)) ≡ link_of (suc n) p ∷ 0 ∷ 0 ∷ 0 ∷ chain_words (suc p) (zero_recs n)
unfolding chain_words
one_free n p = ap (λ a. a ∷ 0 ∷ 0 ∷ 0 ∷ chain_words (suc p) (zero_recs n)) (sym (link_free n p))

no_free : (p : ℕ) (xs : List ℕ) → xs ++ chain_words p (zero_recs 0) ≡ xs
unfolding chain_words
no_free p xs = append-nil xs

module _ (goal out₀ : List ℕ) (end : ℕ) (out : List ℕ) (n p : ℕ) where
  pub free_in_lem : 0 < n → Zeroes goal out₀ end out n p → In out p
  free_in_lem l c = record { one = c.one; fits = omega (arith, c.ends, c.fits) }

  pub free_end : (place count : ℕ) → Zeroes goal out₀ end out n p → end ≡ place + count → n ≤ 0 → take (4 * (place + count) - 4) out ≡ goal
  free_end place count c e l = ap (λ k. take (4 * k - 4) out) (sym e ∙ sym c.ends ∙ all) ∙ done c.whole
    where
      all : p + n ≡ p
      all = omega arith

      none : n ≡ 0
      none = omega arith

      done : take (4 * p - 4) out ++ chain_words p (zero_recs n) ≡ goal → take (4 * p - 4) out ≡ goal
      done w = sym (ap (λ k. take (4 * p - 4) out ++ chain_words p (zero_recs k)) none ∙ no_free p (take (4 * p - 4) out)) ∙ w

free_step :
    (goal out₀ : List ℕ) (end : ℕ) (out : List ℕ) (n p : ℕ) → Zeroes goal out₀ end out (suc n) p
    → Zeroes goal out₀ end (filled out p (link_of (suc n) p) 0 0 0) n (suc p)
free_step goal out₀ end out n p c = record {
  one = omega arith;
  ends = omega (arith, c.ends);
  fits = omega (arith, c.fits, long);
  len = long ∙ c.len;
  whole = ap (λ x. x ++ chain_words (suc p) (zero_recs n)) (take_filled out p (link_of (suc n) p) 0 0 0 (free_in_lem goal out₀ end out (suc n) p (omega arith) c))
      ∙ append_assoc (take (4 * p - 4) out) (link_of (suc n) p ∷ 0 ∷ 0 ∷ 0 ∷ []) (chain_words (suc p) (zero_recs n))
      ∙ ap (λ x. take (4 * p - 4) out ++ x) (sym (one_free n p))
      ∙ c.whole;
}
  where
    long : length (filled out p (link_of (suc n) p) 0 0 0) ≡ length out
    long = length_filled out p (link_of (suc n) p) 0 0 0

pub free_turn :
    (goal out₀ : List ℕ) (end : ℕ) (out out' : List ℕ) (count i p next : ℕ) → i < count → next ≡ link_of (count - i) (p + i) → out' ≡ filled out (p + i) next 0 0 0
    → Zeroes goal out₀ end out (count - i) (p + i) → Zeroes goal out₀ end out' (count - (i + 1)) (p + (i + 1))
free_turn goal out₀ end out out' count i p next l en eo c =
    let some : count - i ≡ suc (count - (i + 1)) = omega arith in
    let after : p + (i + 1) ≡ suc (p + i) = omega arith in
    rw (eo, en, some, after) (free_step goal out₀ end out (count - (i + 1)) (p + i) (rw some at c))

-- ---- all

pub all_records :
    (c : ℕ → List Rec) (out out₁ out₂ : List ℕ) (place count : ℕ) → length out ≡ 4 * (used_to c 11 + count) → length out₁ ≡ length out
    → length out₂ ≡ length out₁ → place ≡ suc (used_to c 11) → take (4 * used_to c 11) out₁ ≡ used_words c 11
    → take (4 * (place + count) - 4) out₂ ≡ take (4 * place - 4) out₁ ++ chain_words place (zero_recs count) → out₂ ≡ packed_records c (length out / 4)
unfolding packed_records
all_records c out out₁ out₂ place count el e₁ e₂ ep ew et =
    sym (take_all (4 * (place + count) - 4) out₂ (omega (arith, el, e₁, e₂, ep))) ∙ et
    ∙ ap₂ (λ (x y : List ℕ). x ++ y) (ap (λ k. take k out₁) before ∙ ew) (ap₂ (λ (k j : ℕ). chain_words k (zero_recs j)) ep left)
  where
    before : 4 * place - 4 ≡ 4 * used_to c 11
    before = omega (arith, ep)

    left : count ≡ length out / 4 - used_to c 11
    left = omega (arith, el)
