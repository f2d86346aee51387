-- The whole block: the chains that the header names are those of the accepted state, and what is written is its packed form. Assumes nothing.
use Prim.Native.Nat.{ℕ, zero, suc, ◌+◌, ◌-◌, ◌*◌, ◌/◌, ◌%◌, ◌≤◌, ◌<◌}
use mathlib.Core.Path.{◌≡◌, refl, sym, ap, ap₂, ◌∙◌}
use mathlib.Core.Bool.{Bool, true, false, ◌&&◌}
use mathlib.Core.List.{List, [], ◌∷◌, ◌++◌}
use native.Mathlib.Omega.{arith}
use lib.Dec.{eqb, leb, ltb}
use lib.ListN.{length, get_or, take, drop, length-drop}
use lib.Seq.{get_or-take}
use borrow.Author.Tests.{ltb-true, leb-true}
use borrow.Rule.Slice.PartMut.{put_mid}
use Rattle.std.specs.Prelude.{if◌then◌else◌}
use Rattle.queue_event.specs.Chain.{Rec}
use Rattle.layout.specs.Records.{head_of, count_of}
use Rattle.layout.specs.Accepted.{room, Accepted}
use Rattle.layout.specs.Spare.{spare}
use Rattle.layout.specs.Opened.{table}
use Rattle.layout.specs.Packed.{first_of, chain_words, used_to, used_words, used_in, free_in, packed_records, packed_head, packed_count, packed_word, packed_from, packed_words, chain_recs, header_word, zero_recs}
use Rattle.layout.proofs.Deciding.{false_true}
use Rattle.layout.proofs.Parts.{back_is, rest_part}
use Rattle.layout.proofs.PackedChains.{length_contents}
use Rattle.layout.proofs.PackedBack.{length_free}
use Rattle.layout.proofs.PackedGood.{used_all}
use Rattle.packing.specs.Heads.{sum_to, first_for, start_of, header_from}
use Rattle.packing.specs.Writing.{chains_of, Rows}
use Rattle.queue_event.proofs.Laws.{chain_row}
use Rattle.packing.proofs.Headers.{first_none, first_some}

-- ---- chains 1 to n that are the same

module _ (c d : ℕ → List Rec) where
  used_same : (n : ℕ) → ((k : ℕ) → k < n → c (suc k) ≡ d (suc k)) → used_to c n ≡ used_to d n
  unfolding used_to
  used_same zero e = refl
  used_same (suc n) e = ap₂ (λ (x y : ℕ). x + y) (used_same n (λ k l. e k (omega arith))) (ap length (e n (omega arith)))

  words_same : (n : ℕ) → ((k : ℕ) → k < n → c (suc k) ≡ d (suc k)) → used_words c n ≡ used_words d n
  unfolding used_words
  words_same zero e = refl
  words_same (suc n) e =
      ap₂ (λ (x y : List ℕ). x ++ y) (words_same n (λ k l. e k (omega arith)))
      (ap₂ (λ (p : ℕ) (l : List Rec). chain_words (suc p) l) (used_same n (λ k l. e k (omega arith))) (e n (omega arith)))

  records_same : (r : ℕ) → ((k : ℕ) → k < 11 → c (suc k) ≡ d (suc k)) → packed_records c r ≡ packed_records d r
  unfolding packed_records
  records_same r e = ap₂ (λ (x y : List ℕ). x ++ y) (words_same 11 e) (ap (λ (u : ℕ). chain_words (suc u) (zero_recs (r - u))) (used_same 11 e))

-- ---- heads by counts

first_is : (p : ℕ) (l : List Rec) → first_for p (length l) ≡ first_of p l
first_is p [] = sym (first_none p 0 refl)
first_is p (x ∷ l) = sym (first_some p (suc (length l)) (λ e. omega arith))

sum_used : (c : ℕ → List Rec) (counts : List ℕ) (n : ℕ) → ((k : ℕ) → k < n → get_or counts (suc k) 0 ≡ length (c (suc k))) → sum_to counts n ≡ used_to c n
unfolding sum_to used_to
sum_used c counts zero e = refl
sum_used c counts (suc n) e = ap₂ (λ (x y : ℕ). x + y) (sum_used c counts n (λ k l. e k (omega arith))) (e n (omega arith))

-- ---- the header

table_same : (n : ℕ) (f g : ℕ → ℕ) → ((i : ℕ) → i < n → f i ≡ g i) → table n f ≡ table n g
unfolding table
table_same zero f g e = refl
table_same (suc n) f g e =
    ap₂ (λ (x : ℕ) (l : List ℕ). x ∷ l) (e 0 (omega arith))
    (table_same n (λ i. f (suc i)) (λ i. g (suc i)) (λ i l. e (suc i) (omega arith)))

chain_word : (i : ℕ) → (leb 24 i && ltb i 48) ≡ true → (24 ≤ i) × (i < 48)
chain_word i e = go (leb 24 i) refl (ltb i 48) refl e
  where
    go : (x : Bool) → leb 24 i ≡ x → (y : Bool) → ltb i 48 ≡ y → (x && y) ≡ true → (24 ≤ i) × (i < 48)
    go true p true q e = (leb-true 24 i p, ltb-true i 48 q)
    go true p false q e = false_true e
    go false p y q e = false_true e

module _
    (w starts counts : List ℕ) (c : ℕ → List Rec) (r : ℕ) (heads-are : (k : ℕ) → k < 12 → get_or starts k 0 ≡ packed_head c r k)
    (counts_are : (k : ℕ) → k < 12 → get_or counts k 0 ≡ packed_count c r k) where
  header_same : (i : ℕ) → i < 256 → header_from (take 256 w) starts counts i ≡ packed_word (λ (i : ℕ). get_or w i 0) c r i
  unfolding header_word
  header_same i l = go (spare i) (leb 24 i && ltb i 48) refl (eqb (i % 2) 0)
    where
      go :
          (a b : Bool) → (leb 24 i && ltb i 48) ≡ b → (d : Bool)
          → (if a then 0 else if b then (if d then get_or starts ((i - 24) / 2) 0 else get_or counts ((i - 24) / 2) 0) else get_or (take 256 w) i 0)
          ≡ (if a then 0 else if b then (if d then packed_head c r ((i - 24) / 2) else packed_count c r ((i - 24) / 2)) else get_or w i 0)
      go true b e d = refl
      go false false e d = get_or-take 256 w i 0 l
      go false true e true = let q = chain_word i e in heads-are ((i - 24) / 2) (omega arith)
      go false true e false = let q = chain_word i e in counts_are ((i - 24) / 2) (omega arith)

-- ---- an accepted block

module _
    (w heads counts : List ℕ) (ok : Accepted w) (eh : (k : ℕ) → k < 12 → get_or heads k 0 ≡ head_of (take 256 w) k)
    (ec : (k : ℕ) → k < 12 → get_or counts k 0 ≡ count_of (take 256 w) k) where
  abbrev h : List ℕ
  h = take 256 w

  abbrev rs : List ℕ
  rs = drop 256 w

  abbrev c : ℕ → List Rec
  c = chain_recs h rs

  counted : (k : ℕ) → k < 12 → get_or counts k 0 ≡ length (c k)
  counted k l = ec k l ∙ sym (length_contents rs (count_of h k) (head_of h k))

  summed : (n : ℕ) → n ≤ 11 → sum_to counts n ≡ used_to c n
  summed n b = sum_used c counts n (λ k l. counted (suc k) (omega arith))

  all : used_in c + get_or counts 0 0 ≡ room rs
  all = omega (arith, used_all h rs (λ i. get_or h i 0) (λ i l. refl) ok.good, (ok.good.chains 0 (omega arith)).count, ec 0 (omega arith))

  records : room rs ≤ 65535
  records = omega (arith, length-drop 256 w, ok.size.most)

  pub pack_sums : sum_to counts 11 ≤ 65535
  pack_sums = omega (arith, summed 11 (omega arith), all, records)

  pub pack_rows : Rows rs heads counts
  pack_rows k a b = rw (eh k b, ec k b) (chain_row rs k (count_of h k) (head_of h k) (ok.good.chains k b).links)

  same : (k : ℕ) → k < 12 → chains_of rs heads counts k ≡ c k
  unfolding chains_of
  same k l = rw (eh k l, ec k l) refl

  used : used_to (chains_of rs heads counts) 11 ≡ used_in c
  used = used_same (chains_of rs heads counts) c 11 (λ k l. same (suc k) (omega arith))

  pub pack_long :
      (out : List ℕ) → length out ≡ length w
      → length (take (length out - 256) (drop 256 out)) ≡ 4 * (used_to (chains_of rs heads counts) 11 + get_or counts 0 0)
  pack_long out e = rw (rest_part out, length-drop 256 out) (omega (arith, used, all, length-drop 256 w, ok.size.least, ok.size.whole))

  starts_are :
      (starts : List ℕ) → ((k : ℕ) → k < 12 → get_or starts k 0 ≡ start_of counts k)
      → (k : ℕ) → k < 12 → get_or starts k 0 ≡ packed_head c (room rs) k
  starts_are starts e zero l = e 0 l ∙ ap₂ first_for (ap suc (summed 11 (omega arith))) free ∙ first_is (suc (used_in c)) (free_in c (room rs))
    where
      free : get_or counts 0 0 ≡ length (free_in c (room rs))
      free = omega (arith, all, length_free c (room rs))
  starts_are starts e (suc k) l = e (suc k) l ∙ ap₂ first_for (ap suc (summed k (omega arith))) (counted (suc k) l) ∙ first_is (suc (used_to c k)) (c (suc k))

  counts_are : (k : ℕ) → k < 12 → get_or counts k 0 ≡ packed_count c (room rs) k
  counts_are zero l = omega (arith, all, length_free c (room rs))
  counts_are (suc k) l = counted (suc k) l

  pub pack_whole :
      (starts numbers out ys : List ℕ) → numbers ≡ counts → length out ≡ length w → ((k : ℕ) → k < 12 → get_or starts k 0 ≡ start_of counts k)
      → take 256 out ≡ table 256 (header_from h starts numbers)
      → ys ≡ packed_records (chains_of rs heads counts) (length (take (length out - 256) (drop 256 out)) / 4)
      → put_mid 256 (length out - 256) out ys ≡ packed_words w
  unfolding packed_words packed_from
  pack_whole starts numbers out ys en e es et er =
      back_is out ys
      ∙ ap₂ (λ (x y : List ℕ). x ++ y)
      (rw en at et
      ∙ table_same 256 (header_from h starts counts) (packed_word (λ (i : ℕ). get_or w i 0) c (room rs))
      (header_same w starts counts c (room rs) (starts_are starts es) counts_are))
      (er
      ∙ records_same (chains_of rs heads counts) c (length (take (length out - 256) (drop 256 out)) / 4) (λ k l. same (suc k) (omega arith))
      ∙ ap (packed_records c) long)
    where
      long : length (take (length out - 256) (drop 256 out)) / 4 ≡ room rs
      long = rw (rest_part out, length-drop 256 out) (omega (arith, length-drop 256 w, e))
