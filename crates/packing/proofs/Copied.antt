-- A chain written as records in a row: each record is four words more, and the rest of the chain is left. Assumes nothing.
use Prim.Native.Nat.{ℕ, suc, ◌+◌, ◌-◌, ◌*◌, ◌≤◌}
use mathlib.Core.Path.{◌≡◌, refl, sym, ap, ◌∙◌}
use mathlib.Core.List.{List, [], ◌∷◌, ◌++◌, append_assoc, append-nil}
use native.Mathlib.Omega.{arith}
use lib.ListN.{length, set, take, length-set}
use lib.Seq.{take-suc-set}
use borrow.Author.Tests.{eq-eqb, ne_eqb}
use Rattle.queue_event.specs.Words.{put, filled, moment_of, length_of, tag_of, In}
use Rattle.queue_event.specs.Chain.{Node, rec_at, recs, nodes, contents}
use Rattle.queue_event.specs.Frame.{node}
use Rattle.layout.specs.Packed.{first_of, chain_words}
use Rattle.layout.proofs.PackedChains.{length_contents}
use Rattle.packing.specs.Copying.{link_of, copied, Copies}

-- ---- a record written whole is four words more

take_four : (out : List ℕ) (i a m l t : ℕ) → i + 4 ≤ length out
    → take (i + 4) (set (set (set (set out i a) (i + 1) m) (i + 2) l) (i + 3) t) ≡ take i out ++ (a ∷ m ∷ l ∷ t ∷ [])
take_four out i a m l t h =
    ap (λ k. take k w₄) (plus_4 i) ∙ take-suc-set w₃ (i + 3) t (rw (length-set, length-set, length-set) (omega arith))
    ∙ ap (λ x. x ++ (t ∷ [])) (ap (λ k. take k w₃) (plus_3 i) ∙ take-suc-set w₂ (i + 2) l (rw (length-set, length-set) (omega arith))
    ∙ ap (λ x. x ++ (l ∷ [])) (ap (λ k. take k w₂) (plus_2 i) ∙ take-suc-set w₁ (i + 1) m (rw length-set (omega arith))
    ∙ ap (λ x. x ++ (m ∷ [])) (ap (λ k. take k w₁) (plus_1 i) ∙ take-suc-set out i a (omega arith))))
    ∙ joined (take i out)
  where
    w₁ : List ℕ
    w₁ = set out i a

    w₂ : List ℕ
    w₂ = set w₁ (i + 1) m

    w₃ : List ℕ
    w₃ = set w₂ (i + 2) l

    w₄ : List ℕ
    w₄ = set w₃ (i + 3) t

    plus_4 : (i : ℕ) → i + 4 ≡ suc (i + 3)
    plus_4 i = omega arith

    plus_3 : (i : ℕ) → i + 3 ≡ suc (i + 2)
    plus_3 i = omega arith

    plus_2 : (i : ℕ) → i + 2 ≡ suc (i + 1)
    plus_2 i = omega arith

    plus_1 : (i : ℕ) → i + 1 ≡ suc i
    plus_1 i = omega arith

    joined : (xs : List ℕ) → xs ++ (a ∷ []) ++ (m ∷ []) ++ (l ∷ []) ++ (t ∷ []) ≡ xs ++ (a ∷ m ∷ l ∷ t ∷ [])
    joined [] = refl
    joined (x ∷ xs) = ap (λ z. x ∷ z) (joined xs)

pub take_filled : (out : List ℕ) (p a m l t : ℕ) → In out p → take (4 * suc p - 4) (filled out p a m l t) ≡ take (4 * p - 4) out ++ (a ∷ m ∷ l ∷ t ∷ [])
unfolding filled put
take_filled out p a m l t i =
    ap (λ k. take k (filled out p a m l t)) (next p i.one)
    ∙ ap (λ w. take (4 * p - 4 + 4) (set (set (set w (4 * p - 4 + 1) m) (4 * p - 4 + 2) l) (4 * p - 4 + 3) t)) (ap (λ k. set out k a) (none (4 * p - 4)))
    ∙ take_four out (4 * p - 4) a m l t (fit i.one i.fits)
  where
    next : (p : ℕ) → 1 ≤ p → 4 * suc p - 4 ≡ 4 * p - 4 + 4
    next p h = omega arith

    none : (k : ℕ) → k + 0 ≡ k
    none k = omega arith

    fit : 1 ≤ p → 4 * p ≤ length out → 4 * p - 4 + 4 ≤ length out
    fit o f = omega arith

-- ---- the link

pub link_last : (n p : ℕ) → n ≡ 1 → 0 ≡ link_of n p
unfolding link_of
link_last n p e = rw (eq-eqb n 1 e)

pub link_next : (n p : ℕ) → (n ≡ 1 → ⊥) → p + 1 ≡ link_of n p
unfolding link_of
link_next n p d = rw (ne_eqb n 1 d) (omega arith)

-- it is what the chain's words have
link_is : (l : List Node) (p : ℕ) → link_of (suc (length (recs l))) p ≡ first_of (suc p) (recs l)
unfolding link_of
link_is [] p = refl
link_is (x ∷ l) p = rw (ne_eqb (suc (suc (length (recs l)))) 1 (λ e. omega arith))

-- ---- the turn

pub length_filled : (out : List ℕ) (p a m l t : ℕ) → length (filled out p a m l t) ≡ length out
unfolding filled put
length_filled out p a m l t = rw (length-set, length-set, length-set, length-set)

one_more :
    (x : Node) (l : List Node) (p : ℕ)
    → chain_words p (recs (x ∷ l)) ≡ link_of (suc (length (recs l))) p ∷ x.rec.moment ∷ x.rec.size ∷ x.rec.tag ∷ chain_words (suc p) (recs l)
unfolding chain_words
one_more x l p = ap (λ a. a ∷ x.rec.moment ∷ x.rec.size ∷ x.rec.tag ∷ chain_words (suc p) (recs l)) (sym (link_is l p))

pub copy_start :
    (rest out : List ℕ) (n h p q : ℕ) → 1 ≤ p → 4 * (p + n) ≤ length out + 4 → q ≡ p + 0
    → Copies (take (4 * p - 4) out ++ chain_words p (contents rest n h)) out (p + n) out (nodes rest n h) q
copy_start rest out n h p q one room e = let same : q ≡ p = omega arith in rw same (record { one = one; ends = omega (arith, length_contents rest n h); fits = room; len = refl; whole = refl })

-- p is q, where the code has it
module _ (goal out₀ : List ℕ) (end : ℕ) (out : List ℕ) (l x : List Node) (p q : ℕ) (c : Copies goal out₀ end out l p) where
  pub copy_end : l ≡ [] → take (4 * end - 4) out ≡ goal
  unfolding chain_words
  copy_end e =
      let last : end ≡ p = omega (arith, c.ends, ap (λ k. length (recs k)) e) in
      ap (λ j. take (4 * j - 4) out) last ∙ sym (append-nil (take (4 * p - 4) out)) ∙ (rw e at c.whole)

  -- the first record of what is left is record r of rest
  module _ (rest rest' : List ℕ) (r : ℕ) (e : l ≡ node rest r ∷ x) (er : rest' ≡ rest) (eq : q ≡ p) where
    some : length (recs l) ≡ suc (length (recs x))
    some = ap (λ k. length (recs k)) e

    pub copy_in : In out q
    copy_in = record { one = omega (arith, c.one); fits = omega (arith, c.ends, c.fits, some) }

    pub copy_turn : (out' : List ℕ) (next p' : ℕ) → next ≡ link_of (end - q) q → out' ≡ copied rest' r out q next → p' ≡ p + 1 → Copies goal out₀ end out' x p'
    unfolding copied rec_at
    copy_turn out' next p' en eo ep = rw (eo, ep₁, en₁, er, eq) (record {
      one = omega arith;
      ends = omega (arith, c.ends, some);
      fits = omega (arith, c.fits, long);
      len = long ∙ c.len;
      whole =
          ap (λ y. y ++ chain_words (suc p) (recs x)) (take_filled out p (link_of (suc (length (recs x))) p) (moment_of rest r) (length_of rest r) (tag_of rest r) (rw eq at copy_in))
          ∙ append_assoc (take (4 * p - 4) out) (link_of (suc (length (recs x))) p ∷ moment_of rest r ∷ length_of rest r ∷ tag_of rest r ∷ []) (chain_words (suc p) (recs x))
          ∙ ap (λ y. take (4 * p - 4) out ++ y) (sym (one_more (node rest r) x p))
          ∙ ap (λ y. take (4 * p - 4) out ++ chain_words p (recs y)) (sym e)
          ∙ c.whole;
    })
      where
        ep₁ : p' ≡ suc p
        ep₁ = omega arith

        en₁ : next ≡ link_of (suc (length (recs x))) p
        en₁ = en ∙ (λ d. link_of (left d) (eq d))
          where
            left : end - q ≡ suc (length (recs x))
            left = omega (arith, c.ends, some)

        long : length (filled out p (link_of (suc (length (recs x))) p) (moment_of rest r) (length_of rest r) (tag_of rest r)) ≡ length out
        long = length_filled out p (link_of (suc (length (recs x))) p) (moment_of rest r) (length_of rest r) (tag_of rest r)
