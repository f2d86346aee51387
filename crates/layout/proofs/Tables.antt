-- The words that opening leaves, one by one. Assumes nothing.
use Prim.Native.Nat.{ℕ, zero, suc, ◌+◌, ◌-◌, ◌*◌, ◌≤◌, ◌<◌, ◌/◌, ◌%◌}
use mathlib.Core.Path.{◌≡◌, refl, sym, ap, subst, ◌∙◌}
use mathlib.Core.List.{List, [], ◌∷◌, ◌++◌}
use mathlib.Core.Bool.{Bool, true, false}
use native.Mathlib.Omega.{arith}
use lib.Dec.{ltb}
use lib.ListN.{length, get_or, take, drop, length-append, get_or-append}
use lib.Seq.{take-append_seam, drop-append_seam, ext_get_or, get_or-append-add}
use borrow.Author.Tests.{ltb-true, ltb-false, eq-eqb, ne_eqb, lt-ltb, le-ltb}
use Rattle.rules.specs.Opening.{Opening, records_in}
use Rattle.queue_event.specs.Words.{word}
use Rattle.layout.specs.Opened.{table, head_word, record_word, first_words, opened_words}

pub length_table : (n : ℕ) (f : ℕ → ℕ) → length (table n f) ≡ n
unfolding table
length_table zero f = refl
length_table (suc n) f = ap suc (length_table n (λ i. f (suc i)))

pub table_at : (n : ℕ) (f : ℕ → ℕ) (i : ℕ) → i < n → get_or (table n f) i 0 ≡ f i
unfolding table
table_at zero f i l = absurd (omega arith)
table_at (suc n) f zero l = refl
table_at (suc n) f (suc i) l = table_at n (λ i. f (suc i)) i (omega arith)

-- past the end of a list there is 0
pub list_past : (l : List ℕ) (i : ℕ) → length l ≤ i → get_or l i 0 ≡ 0
list_past [] i p = refl
list_past (x ∷ l) zero p = absurd (omega arith)
list_past (x ∷ l) (suc i) p = list_past l i (omega arith)

module _ (o : Opening) (n : ℕ) where
  abbrev pub open_head : List ℕ
  open_head = table 256 (head_word o (records_in n))

  abbrev pub open_rest : List ℕ
  open_rest = table (4 * records_in n) (record_word (records_in n))

  pub opened_length : length (opened_words o n) ≡ 256 + 4 * records_in n
  unfolding opened_words
  opened_length = length-append open_head open_rest ∙ (λ d. length_table 256 (head_word o (records_in n)) d + length_table (4 * records_in n) (record_word (records_in n)) d)

  pub opened_head : take 256 (opened_words o n) ≡ open_head
  unfolding opened_words
  opened_head = subst (λ k. take k (open_head ++ open_rest) ≡ open_head) (length_table 256 (head_word o (records_in n))) (take-append_seam open_head open_rest)

  pub opened_rest : drop 256 (opened_words o n) ≡ open_rest
  unfolding opened_words
  opened_rest = subst (λ k. drop k (open_head ++ open_rest) ≡ open_rest) (length_table 256 (head_word o (records_in n))) (drop-append_seam open_head open_rest)

  -- the words of the header
  pub head_at : (i : ℕ) → i < 256 → get_or open_head i 0 ≡ head_word o (records_in n) i
  head_at i l = table_at 256 (head_word o (records_in n)) i l

  pub head_zero : (i : ℕ) → 26 ≤ i → i < 256 → get_or open_head i 0 ≡ 0
  head_zero i a b = head_at i b ∙ list_past (first_words o (records_in n)) i a

  -- the words of record q
  pub next_at : (q : ℕ) → 1 ≤ q → q < records_in n → word open_rest q 0 ≡ suc q
  unfolding word
  next_at q a b = table_at (4 * records_in n) (record_word (records_in n)) (4 * q - 4 + 0) (omega arith) ∙ value (4 * q - 4 + 0) (omega arith) (omega arith) (omega arith)
    where
      value : (i : ℕ) → i % 4 ≡ 0 → i / 4 + 1 < records_in n → i / 4 + 2 ≡ suc q → record_word (records_in n) i ≡ suc q
      value i x y z = rw (eq-eqb (i % 4) 0 x, lt-ltb (i / 4 + 1) (records_in n) y) z

  pub next_end : word open_rest (records_in n) 0 ≡ 0
  unfolding word
  next_end = go (records_in n) refl
    where
      value : (i : ℕ) → i % 4 ≡ 0 → records_in n ≤ i / 4 + 1 → record_word (records_in n) i ≡ 0
      value i x y = rw (eq-eqb (i % 4) 0 x, le-ltb (i / 4 + 1) (records_in n) y)

      go : (r : ℕ) → records_in n ≡ r → get_or open_rest (4 * records_in n - 4 + 0) 0 ≡ 0
      go zero e = list_past open_rest (4 * records_in n - 4 + 0) (rw (length_table (4 * records_in n) (record_word (records_in n))) (omega arith))
      go (suc r) e = table_at (4 * records_in n) (record_word (records_in n)) (4 * records_in n - 4 + 0) (omega arith) ∙ value (4 * records_in n - 4 + 0) (omega arith) (omega arith)

  pub tag_at : (q : ℕ) → 1 ≤ q → q ≤ records_in n → word open_rest q 3 ≡ 0
  unfolding word
  tag_at q a b = table_at (4 * records_in n) (record_word (records_in n)) (4 * q - 4 + 3) (omega arith) ∙ value (4 * q - 4 + 3) (λ e. omega arith)
    where
      value : (i : ℕ) → (i % 4 ≡ 0 → ⊥) → record_word (records_in n) i ≡ 0
      value i x = rw (ne_eqb (i % 4) 0 x)

  -- words that are these one by one are these
  pub opened_is :
      (w : List ℕ) → length w ≡ 256 + 4 * records_in n → ((i : ℕ) → i < 256 → get_or w i 0 ≡ head_word o (records_in n) i)
      → ((i : ℕ) → i < 4 * records_in n → get_or w (256 + i) 0 ≡ record_word (records_in n) i) → w ≡ opened_words o n
  unfolding opened_words
  opened_is w e a b = ext_get_or 0 w (open_head ++ open_rest) (e ∙ sym opened_length) (λ i l. go i l (ltb i 256) refl)
    where
      go : (i : ℕ) → i < length w → (t : Bool) → ltb i 256 ≡ t → get_or w i 0 ≡ get_or (open_head ++ open_rest) i 0
      go i l true q =
          let s = ltb-true i 256 q in
          a i s ∙ sym (head_at i s) ∙ sym (get_or-append open_head open_rest 0 i (rw (length_table 256 (head_word o (records_in n))) s))
      go i l false q =
          let s = ltb-false i 256 q in
          let z : 256 + (i - 256) ≡ i = omega arith in
          ap (λ j. get_or w j 0) (sym z) ∙ b (i - 256) (omega arith) ∙ sym (table_at (4 * records_in n) (record_word (records_in n)) (i - 256) (omega arith))
          ∙ sym (get_or-append-add open_head open_rest (i - 256) 0) ∙ ap (λ j. get_or (open_head ++ open_rest) j 0) (ap (λ k. k + (i - 256)) (length_table 256 (head_word o (records_in n))) ∙ z)
