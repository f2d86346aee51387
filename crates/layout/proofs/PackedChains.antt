-- Chains written in a row, and read back: each holds the records that were written, numbered upward. Assumes nothing.
use Prim.Native.Nat.{ℕ, zero, suc, ◌+◌, ◌-◌, ◌*◌, ◌≤◌, ◌<◌}
use mathlib.Core.Path.{◌≡◌, refl, sym, ap, ap₂, subst, ◌∙◌}
use mathlib.Core.List.{List, [], ◌∷◌, ◌++◌}
use mathlib.Core.Bool.{Bool, true, false}
use native.Mathlib.Omega.{arith}
use lib.Dec.{ltb}
use lib.ListN.{length, get_or, length-append, get_or-append}
use lib.Seq.{get_or-append-add}
use borrow.Author.Tests.{ltb-true, ltb-false}
use Rattle.queue_event.specs.Words.{word, next_of, moment_of, length_of, tag_of}
use Rattle.queue_event.specs.Chain.{Rec, Node, nodes, contents, rec_at, Chain as Linked}
use Rattle.queue_event.specs.Tag.{mark_of}
use Rattle.layout.specs.Packed.{first_of, chain_words, used_to, used_words}
use Rattle.layout.proofs.Counts.{length_map, length_nodes}

-- ---- how long they are

pub length_chain : (p : ℕ) (l : List Rec) → length (chain_words p l) ≡ 4 * length l
unfolding chain_words
length_chain p [] = refl
length_chain p (x ∷ l) = omega (arith, length_chain (suc p) l)

pub used_next : (c : ℕ → List Rec) (k : ℕ) → used_to c (suc k) ≡ used_to c k + length (c (suc k))
unfolding used_to
used_next c k = refl

pub words_next : (c : ℕ → List Rec) (k : ℕ) (l : List Rec) → c (suc k) ≡ l → used_words c (suc k) ≡ used_words c k ++ chain_words (suc (used_to c k)) l
unfolding used_words
words_next c k l e = ap (λ x. used_words c k ++ chain_words (suc (used_to c k)) x) e

pub length_used : (c : ℕ → List Rec) (k : ℕ) → length (used_words c k) ≡ 4 * used_to c k
unfolding used_words used_to
length_used c zero = refl
length_used c (suc k) =
    omega (arith, length-append (used_words c k) (chain_words (suc (used_to c k)) (c (suc k))), length_chain (suc (used_to c k)) (c (suc k)), length_used c k)

used_more : (c : ℕ → List Rec) (d e : ℕ) → used_to c d ≤ used_to c (e + d)
used_more c d zero = subst (λ k. used_to c d ≤ used_to c k) (same d) (omega arith)
  where
    same : (d : ℕ) → d ≡ 0 + d
    same d = omega arith
used_more c d (suc e) = subst (λ k. used_to c d ≤ used_to c k) (next e d) (omega (arith, used_more c d e, used_next c (e + d)))
  where
    next : (e d : ℕ) → suc (e + d) ≡ suc e + d
    next e d = omega arith

pub used_least : (c : ℕ → List Rec) (d e : ℕ) → d ≤ e → used_to c d ≤ used_to c e
used_least c d e l = subst (λ k. used_to c d ≤ used_to c k) sum (used_more c d (e - d))
  where
    sum : e - d + d ≡ e
    sum = omega arith

pub length_contents : (rs : List ℕ) (n h : ℕ) → length (contents rs n h) ≡ n
length_contents rs n h = length_map (λ (x : Node). x.rec) (nodes rs n h) ∙ length_nodes rs n h

-- ---- words that stand among others

-- the words ws stand in rs from word b on
abbrev pub Stand : List ℕ → ℕ → List ℕ → Type 0
Stand rs b ws = (i : ℕ) → i < length ws → get_or rs (b + i) 0 ≡ get_or ws i 0

pub stand_left : (rs : List ℕ) (b : ℕ) (xs ys : List ℕ) → Stand rs b (xs ++ ys) → Stand rs b xs
stand_left rs b xs ys s i l = s i (rw (length-append xs ys) (omega arith)) ∙ get_or-append xs ys 0 i l

pub stand_right : (rs : List ℕ) (b : ℕ) (xs ys : List ℕ) → Stand rs b (xs ++ ys) → Stand rs (b + length xs) ys
stand_right rs b xs ys s i l =
    ap (λ j. get_or rs j 0) (over b (length xs) i) ∙ s (length xs + i) (rw (length-append xs ys) (omega arith)) ∙ get_or-append-add xs ys i 0
  where
    over : (b n i : ℕ) → b + n + i ≡ b + (n + i)
    over b n i = omega arith

-- record p of rs, where its four words stand
module _ (rs : List ℕ) (p n m l t : ℕ) (ws : List ℕ) (s : Stand rs (4 * p - 4) (n ∷ m ∷ l ∷ t ∷ ws)) where
  next_is : next_of rs p ≡ n
  unfolding word
  next_is = s 0 (omega arith)

  moment_is : moment_of rs p ≡ m
  unfolding word
  moment_is = s 1 (omega arith)

  length_is : length_of rs p ≡ l
  unfolding word
  length_is = s 2 (omega arith)

  tag_is : tag_of rs p ≡ t
  unfolding word
  tag_is = s 3 (omega arith)

  rec_is : rec_at rs p ≡ record { moment = m; size = l; tag = t }
  unfolding rec_at
  rec_is = λ d. record { moment = moment_is d; size = length_is d; tag = tag_is d }

  after : 1 ≤ p → Stand rs (4 * suc p - 4) ws
  after o i h = ap (λ j. get_or rs j 0) (shift p i o) ∙ s (suc (suc (suc (suc i)))) (omega arith)
    where
      shift : (p i : ℕ) → 1 ≤ p → 4 * suc p - 4 + i ≡ 4 * p - 4 + suc (suc (suc (suc i)))
      shift p i o = omega arith

-- ---- a chain

-- these records, in the numbers from p on
unfoldable pub placed : ℕ → List Rec → List Node
placed p [] = []
placed p (x ∷ l) = record { at = p; rec = x } ∷ placed (suc p) l

-- the chain read back
pub read_back : (rs : List ℕ) (p : ℕ) (l : List Rec) → 1 ≤ p → Stand rs (4 * p - 4) (chain_words p l) → nodes rs (length l) (first_of p l) ≡ placed p l
unfolding chain_words placed nodes
read_back rs p [] o s = refl
read_back rs p (x ∷ l) o s =
    ap₂ (λ (r : Rec) (q : List Node). record { at = p; rec = r } ∷ q) (rec_is rs p (first_of (suc p) l) x.moment x.size x.tag (chain_words (suc p) l) s)
    (
    ap (nodes rs (length l)) (next_is rs p (first_of (suc p) l) x.moment x.size x.tag (chain_words (suc p) l) s)
    ∙ read_back rs (suc p) l (omega arith) (after rs p (first_of (suc p) l) x.moment x.size x.tag (chain_words (suc p) l) s o)
    )

-- each of these has mark k
abbrev pub Marked : ℕ → List Rec → Type 0
Marked k [] = Unit {0}
Marked k (x ∷ l) = (mark_of x.tag ≡ k) × Marked k l

-- it is linked, and ends after them
pub linked_back :
    (rs : List ℕ) (k p : ℕ) (l : List Rec) → 1 ≤ p → 4 * p - 4 + 4 * length l ≤ length rs → Marked k l → Stand rs (4 * p - 4) (chain_words p l)
    → Linked rs k (length l) (first_of p l)
unfolding chain_words Linked
linked_back rs k p [] o fits m s = refl
linked_back rs k p (x ∷ l) o fits m s = (
  record { one = o; fits = omega arith },
  ap mark_of (tag_is rs p (first_of (suc p) l) x.moment x.size x.tag (chain_words (suc p) l) s) ∙ m.0,
  subst (Linked rs k (length l)) (sym (next_is rs p (first_of (suc p) l) x.moment x.size x.tag (chain_words (suc p) l) s))
      (
      linked_back rs k (suc p) l (omega arith) (omega arith) m.1
      (after rs p (first_of (suc p) l) x.moment x.size x.tag (chain_words (suc p) l) s o)
      ),
)

-- ---- chain k + 1 of those from 1 to n

pub used_stand :
    (rs : List ℕ) (c : ℕ → List Rec) (n k : ℕ) → k < n → Stand rs 0 (used_words c n)
    → Stand rs (4 * used_to c k) (chain_words (suc (used_to c k)) (c (suc k)))
unfolding used_words
used_stand rs c zero k l s = absurd (omega arith)
used_stand rs c (suc n) k l s =
    go (ltb k n) refl (λ e. used_stand rs c n k (ltb-true k n e) (stand_left rs 0 (used_words c n) (chain_words (suc (used_to c n)) (c (suc n))) s))
  where
    over : (x : ℕ) → 0 + x ≡ x
    over x = omega arith

    go :
        (b : Bool) → ltb k n ≡ b → (ltb k n ≡ true → Stand rs (4 * used_to c k) (chain_words (suc (used_to c k)) (c (suc k))))
        → Stand rs (4 * used_to c k) (chain_words (suc (used_to c k)) (c (suc k)))
    go true e ih = ih e
    go false e ih =
        let z : n ≡ k = omega (arith, ltb-false k n e) in
        subst (λ j. Stand rs (4 * used_to c j) (chain_words (suc (used_to c j)) (c (suc j)))) z
        (
        subst (λ b. Stand rs b (chain_words (suc (used_to c n)) (c (suc n)))) (over (length (used_words c n)) ∙ length_used c n)
        (stand_right rs 0 (used_words c n) (chain_words (suc (used_to c n)) (c (suc n))) s)
        )
