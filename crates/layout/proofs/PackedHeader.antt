-- The two parts of a packed block, and the words of its header: 0, heads and counts, or what they were. Assumes nothing.
use Prim.Native.Nat.{ℕ, ◌+◌, ◌-◌, ◌*◌, ◌/◌, ◌%◌, ◌≤◌, ◌<◌}
use mathlib.Core.Path.{◌≡◌, refl, subst, ◌∙◌}
use mathlib.Core.Bool.{Bool, true, false}
use mathlib.Core.List.{List, ◌++◌}
use mathlib.Core.Logic.{inl, inr}
use native.Mathlib.Omega.{arith}
use lib.ListN.{length, get_or, take, drop, length-append, get_or-append}
use lib.Seq.{take-append_seam, drop-append_seam}
use borrow.Author.Tests.{eq-eqb, ne_eqb, lt-ltb, le-ltb, le-leb, lt-leb}
use Rattle.queue_event.specs.Chain.{Rec}
use Rattle.layout.specs.Records.{chain_count, head_of, count_of}
use Rattle.layout.specs.Spare.{spare, Spare}
use Rattle.layout.specs.Opened.{table}
use Rattle.layout.specs.Packed.{used_in, packed_records, packed_head, packed_count, header_word, packed_word, packed_from}
use Rattle.layout.proofs.Tables.{length_table, table_at}
use Rattle.layout.proofs.Spares.{SpareAt, spare_at_lem, spare_head}
use Rattle.layout.proofs.ChainWords.{Copied}
use Rattle.layout.proofs.PackedBack.{length_packed}

meaning : (i : ℕ) → (SpareAt i → ⊥) → spare i ≡ false
meaning i n = go (spare i) refl
  where
    go : (b : Bool) → spare i ≡ b → spare i ≡ false
    go true e = absurd (n (spare_at_lem i e))
    go false e = e

copied_meaning : (i : ℕ) → Copied i → spare i ≡ false
copied_meaning i o = meaning i (λ s. go o s)
  where
    go : Copied i → SpareAt i → ⊥
    go (inl a) (inl x) = omega (arith, x.0)
    go (inl a) (inr (inl x)) = omega (arith, x.0)
    go (inl a) (inr (inr x)) = omega (arith, x.0)
    go (inr a) (inl x) = omega (arith, a.0, x.1)
    go (inr a) (inr (inl x)) = omega (arith, a.0, x.1)
    go (inr a) (inr (inr x)) = omega (arith, a.1, x.0)

chain_meaning : (i : ℕ) → 24 ≤ i → i < 24 + 2 * chain_count → spare i ≡ false
chain_meaning i a b = meaning i go
  where
    go : SpareAt i → ⊥
    go (inl x) = omega (arith, x.1)
    go (inr (inl x)) = omega (arith, x.0)
    go (inr (inr x)) = omega (arith, x.0)

module _ (f : ℕ → ℕ) (c : ℕ → List Rec) (r : ℕ) where
  -- ---- one word

  word_spare : (i : ℕ) → Spare i → packed_word f c r i ≡ 0
  unfolding header_word
  word_spare i s = rw s refl

  word_copied : (i : ℕ) → Copied i → packed_word f c r i ≡ f i
  unfolding header_word
  word_copied i (inl a) = rw (copied_meaning i (inl a), lt-leb 24 i (omega arith)) refl
  word_copied i (inr a) = rw (copied_meaning i (inr a), le-leb 24 i (omega (arith, a.0)), le-ltb i (24 + 2 * chain_count) (omega (arith, a.0))) refl

  word_head : (i k : ℕ) → 24 ≤ i → i < 24 + 2 * chain_count → i % 2 ≡ 0 → (i - 24) / 2 ≡ k → packed_word f c r i ≡ packed_head c r k
  unfolding header_word
  word_head i k a b e q = rw (chain_meaning i a b, le-leb 24 i a, lt-ltb i (24 + 2 * chain_count) b, eq-eqb (i % 2) 0 e, q) refl

  word_count : (i k : ℕ) → 24 ≤ i → i < 24 + 2 * chain_count → (i % 2 ≡ 0 → ⊥) → (i - 24) / 2 ≡ k → packed_word f c r i ≡ packed_count c r k
  unfolding header_word
  word_count i k a b e q = rw (chain_meaning i a b, le-leb 24 i a, lt-ltb i (24 + 2 * chain_count) b, ne_eqb (i % 2) 0 e, q) refl

  -- ---- the header

  abbrev pub pack_head : List ℕ
  pack_head = table 256 (packed_word f c r)

  pub head_spare : (i : ℕ) → Spare i → get_or pack_head i 0 ≡ 0
  head_spare i s = table_at 256 (packed_word f c r) i (spare_head i s).1 ∙ word_spare i s

  pub head_copied : (i : ℕ) → Copied i → get_or pack_head i 0 ≡ f i
  head_copied i o = table_at 256 (packed_word f c r) i (low o) ∙ word_copied i o
    where
      low : Copied i → i < 256
      low (inl a) = omega arith
      low (inr a) = omega (arith, a.1)

  pub head_is : (k : ℕ) → k < chain_count → head_of pack_head k ≡ packed_head c r k
  head_is k l = table_at 256 (packed_word f c r) (24 + 2 * k) (omega arith) ∙ word_head (24 + 2 * k) k (omega arith) (omega arith) (omega arith) (omega arith)

  pub count_is : (k : ℕ) → k < chain_count → count_of pack_head k ≡ packed_count c r k
  count_is k l =
      table_at 256 (packed_word f c r) (25 + 2 * k) (omega arith) ∙ word_count (25 + 2 * k) k (omega arith) (omega arith) (λ e. omega arith) (omega arith)

  -- ---- the block

  pub from_length : used_in c ≤ r → length (packed_from f c r) ≡ 256 + 4 * r
  unfolding packed_from
  from_length fits =
      omega (arith, length-append pack_head (packed_records c r), length_table 256 (packed_word f c r), length_packed c r fits)

  pub from_head : take 256 (packed_from f c r) ≡ pack_head
  unfolding packed_from
  from_head =
      subst (λ k. take k (pack_head ++ packed_records c r) ≡ pack_head) (length_table 256 (packed_word f c r))
      (take-append_seam pack_head (packed_records c r))

  pub from_rest : drop 256 (packed_from f c r) ≡ packed_records c r
  unfolding packed_from
  from_rest =
      subst (λ k. drop k (pack_head ++ packed_records c r) ≡ packed_records c r) (length_table 256 (packed_word f c r))
      (drop-append_seam pack_head (packed_records c r))

  pub from_spare : (i : ℕ) → Spare i → get_or (packed_from f c r) i 0 ≡ 0
  unfolding packed_from
  from_spare i s =
      get_or-append pack_head (packed_records c r) 0 i (rw (length_table 256 (packed_word f c r)) (spare_head i s).1) ∙ head_spare i s
