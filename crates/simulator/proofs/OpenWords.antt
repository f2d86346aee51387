-- The words that opening writes: the settings over cleared words, the free records chained upward. Assumes nothing.
use Prim.Native.Nat.{ℕ, zero, suc, ◌+◌, ◌-◌, ◌*◌, ◌/◌, ◌%◌, ◌≤◌, ◌<◌}
use mathlib.Core.Path.{◌≡◌, refl, sym, ap, ◌∙◌}
use mathlib.Core.Bool.{Bool}
use mathlib.Core.List.{List, [], ◌∷◌, ◌++◌}
use native.Mathlib.Omega.{arith}
use native.Mathlib.Decide.{ℕ_discrete}
use lib.Dec.{eqb}
use lib.ListN.{length, get_or, set, take, drop, replicate, length-replicate, length-set, length-drop, get_or-append}
use lib.Seq.{get_or-set_same, get_or-set_other, get_or-drop, get_or-take, get_or-append-add, length-take-le}
use borrow.Author.Tests.{lt-ltb, eq-eqb, ne_eqb}
use borrow.Rule.Slice.PartMut.{put_mid, same_len_mid}
use Rattle.std.specs.Prelude.{if◌then◌else◌}
use Rattle.rules.specs.Opening.{Opening, records_in}
use Rattle.queue_event.specs.Words.{put}
use Rattle.layout.specs.Accepted.{SizeOk}
use Rattle.layout.specs.Opened.{first_words, head_word, opened_words, record_word}
use Rattle.layout.proofs.Parts.{back_is, rest_part}
use Rattle.layout.proofs.Tables.{list_past, opened_is}
use Rattle.simulator.specs.OpeningParts.{AllZero, Chained, put_head, put_settings}
use Rattle.simulator.proofs.Reading.{same_ltb}

-- ---- the free chain

word_more : (r k : ℕ) → (k ≡ 4 * r - 4 + 0 → ⊥) → record_word r k ≡ record_word (r + 1) k
word_more r k d = go (ℕ_discrete (k % 4) 0)
  where
    go : Dec (k % 4 ≡ 0) → record_word r k ≡ record_word (r + 1) k
    go (yes e) =
        ap (λ (b : Bool). if eqb (k % 4) 0 then if b then k / 4 + 2 else 0 else 0)
        (same_ltb (k / 4 + 1) r (k / 4 + 1) (r + 1) (λ l. omega arith) (λ l. not_last l (λ q. d (omega arith))))
      where
        not_last : k / 4 + 1 < r + 1 → (k / 4 + 1 ≡ r → ⊥) → k / 4 + 1 < r
        not_last l n = omega arith
    go (no n) = rw (ne_eqb (k % 4) 0 n)

word_new : (r k : ℕ) → 1 ≤ r → k ≡ 4 * r - 4 + 0 → r + 1 ≡ record_word (r + 1) k
word_new r k l e =
    let a : k % 4 ≡ 0 = omega arith in
    let b : k / 4 + 1 < r + 1 = omega arith in
    let c : r + 1 ≡ k / 4 + 2 = omega arith in
    rw (eq-eqb (k % 4) 0 a, lt-ltb (k / 4 + 1) (r + 1) b) c

pub chain_turn :
    (rs₀ : List ℕ) (count : ℕ) (rs rs' : List ℕ) (r : ℕ) → length rs₀ ≡ 4 * count → r < count → Chained rs₀ count rs r → rs' ≡ put rs r 0 (r + 1)
    → Chained rs₀ count rs' (r + 1)
unfolding put
chain_turn rs₀ count rs rs' r e l c q =
    ((omega arith, omega arith), (ap length q ∙ length-set rs (4 * r - 4 + 0) (r + 1) ∙ c.1.0, λ k. ap (λ x. get_or x k 0) q ∙ go k (ℕ_discrete k (4 * r - 4 + 0))))
  where
    go : (k : ℕ) → Dec (k ≡ 4 * r - 4 + 0) → get_or (set rs (4 * r - 4 + 0) (r + 1)) k 0 ≡ record_word (r + 1) k
    go k (yes p) = ap (λ i. get_or (set rs (4 * r - 4 + 0) (r + 1)) i 0) p ∙ get_or-set_same rs (4 * r - 4 + 0) (r + 1) 0 (omega (arith, c.0.0, c.1.0)) ∙ word_new r k c.0.0 p
    go k (no d) = get_or-set_other rs (4 * r - 4 + 0) k (r + 1) 0 d ∙ c.1.1 k ∙ word_more r k d

pub chain_end :
    (rs₀ : List ℕ) (count : ℕ) (rs : List ℕ) (r : ℕ) → count ≤ r → Chained rs₀ count rs r
    → (length rs ≡ length rs₀) × ((k : ℕ) → get_or rs k 0 ≡ record_word count k)
chain_end rs₀ count rs r l c = let e : r ≡ count = omega (arith, c.0.1) in (c.1.0, λ k. c.1.1 k ∙ ap (λ x. record_word x k) e)

-- ---- the header

abbrev zeros : ℕ → List ℕ
zeros m = replicate m 0

zero_at : (m i : ℕ) → get_or (zeros m) i 0 ≡ 0
zero_at zero i = refl
zero_at (suc m) zero = refl
zero_at (suc m) (suc i) = zero_at m i

zero_after : (a : List ℕ) (m i : ℕ) → get_or (a ++ zeros m) i 0 ≡ get_or a i 0
zero_after [] m i = zero_at m i
zero_after (x ∷ a) m zero = refl
zero_after (x ∷ a) m (suc i) = zero_after a m i

head_zeros : (o : Opening) (r m : ℕ) → put_head o r (zeros (suc (suc (suc (suc (suc (suc (suc (suc (suc (suc (suc (suc (suc (suc (suc (suc (suc (suc (suc (suc (suc (suc (suc (suc (suc (suc m))))))))))))))))))))))))))) ≡ first_words o r ++ zeros m
head_zeros o r m = refl

pub head_words : (o : Opening) (r m : ℕ) → 260 ≤ m → (i : ℕ) → get_or (put_head o r (zeros m)) i 0 ≡ head_word o r i
head_words o r m l i = ap (λ k. get_or (put_head o r (zeros k)) i 0) (sym past) ∙ ap (λ x. get_or x i 0) (head_zeros o r (m - 26)) ∙ zero_after (first_words o r) (m - 26) i
  where
    past : suc (suc (suc (suc (suc (suc (suc (suc (suc (suc (suc (suc (suc (suc (suc (suc (suc (suc (suc (suc (suc (suc (suc (suc (suc (suc (m - 26)))))))))))))))))))))))))) ≡ m
    past = omega arith

length_settings : (o : Opening) (w : List ℕ) → length (put_settings o w) ≡ length w
length_settings o w = simp length-set

length_head : (o : Opening) (r : ℕ) (w : List ℕ) → length (put_head o r w) ≡ length w
length_head o r w = simp length-set

-- ---- the whole block

module _
    (w₀ w w₂ : List ℕ) (o : Opening) (size : SizeOk (length w₀)) (cleared : w ≡ zeros (length w₀)) (settings : w₂ ≡ put_settings o w)
    (count : ℕ) (ec : count ≡ (length w₂ - 256) / 4) where
  -- the words before the records are lent on
  abbrev pub headed : List ℕ
  headed = set (set w₂ 24 1) 25 count

  same_words : headed ≡ put_head o count (zeros (length w₀))
  same_words = ap (λ x. set (set x 24 1) 25 count) (settings ∙ ap (put_settings o) cleared)

  cleared_long : length w ≡ length w₀
  cleared_long = ap length cleared ∙ length-replicate (length w₀) 0

  long : length headed ≡ length w₀
  long = ap length same_words ∙ length_head o count (zeros (length w₀)) ∙ length-replicate (length w₀) 0

  records_are : count ≡ records_in (length w₀)
  records_are = ec ∙ ap records_in (ap length settings ∙ length_settings o w ∙ cleared_long)

  words_are : (i : ℕ) → get_or headed i 0 ≡ head_word o count i
  words_are i = ap (λ x. get_or x i 0) same_words ∙ head_words o count (length w₀) size.least i

  pub rest_ready : ((length (take (length headed - 256) (drop 256 headed)) ≡ 4 * count) × (1 ≤ count)) × AllZero (take (length headed - 256) (drop 256 headed))
  rest_ready = (
    (rw (rest_part headed, length-drop 256 headed) (omega (arith, long, records_are, size.least, size.whole)), omega (arith, records_are, size.least)),
    λ k. ap (λ x. get_or x k 0) (rest_part headed) ∙ get_or-drop 256 headed k 0 ∙ words_are (256 + k) ∙ list_past (first_words o count) (256 + k) (omega arith),
  )

  pub written_long :
      (ys : List ℕ) → length ys ≡ length (take (length headed - 256) (drop 256 headed)) → length (put_mid 256 (length headed - 256) headed ys) ≡ length w₀
  written_long ys e = same_len_mid 256 (length headed - 256) headed ys e ∙ long

  pub state_written :
      (ys : List ℕ) → (length ys ≡ length (take (length headed - 256) (drop 256 headed))) × ((k : ℕ) → get_or ys k 0 ≡ record_word count k)
      → put_mid 256 (length headed - 256) headed ys ≡ opened_words o (length w₀)
  state_written ys c =
      opened_is o (length w₀) (put_mid 256 (length headed - 256) headed ys)
      (written_long ys c.0 ∙ omega (arith, size.least, size.whole)) front back
    where
      front_long : length (take 256 headed) ≡ 256
      front_long = length-take-le 256 headed (omega (arith, long, size.least))

      front : (i : ℕ) → i < 256 → get_or (put_mid 256 (length headed - 256) headed ys) i 0 ≡ head_word o (records_in (length w₀)) i
      front i l =
          ap (λ x. get_or x i 0) (back_is headed ys) ∙ get_or-append (take 256 headed) ys 0 i (rw front_long l) ∙ get_or-take 256 headed i 0 l ∙ words_are i
          ∙ ap (λ r. head_word o r i) records_are

      back : (i : ℕ) → i < 4 * records_in (length w₀) → get_or (put_mid 256 (length headed - 256) headed ys) (256 + i) 0 ≡ record_word (records_in (length w₀)) i
      back i l =
          ap (λ x. get_or x (256 + i) 0) (back_is headed ys) ∙ ap (λ p. get_or (take 256 headed ++ ys) (p + i) 0) (sym front_long) ∙ get_or-append-add (take 256 headed) ys i 0
          ∙ c.1 i ∙ ap (λ r. record_word r i) records_are
