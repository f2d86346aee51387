-- The words of a packed block that mean nothing are 0: those of the header, and moment, length and tag of free records. Assumes nothing.
use Prim.Native.Nat.{ℕ, zero, suc, ◌+◌, ◌-◌, ◌*◌, ◌/◌, ◌%◌, ◌≤◌, ◌<◌}
use mathlib.Core.Path.{◌≡◌, refl, sym, ap, subst, ◌∙◌}
use mathlib.Core.List.{List}
use mathlib.Core.Logic.{inl, inr}
use native.Mathlib.Omega.{arith}
use lib.ListN.{length, get_or, take, drop, replicate}
use lib.Seq.{get_or-drop}
use Rattle.rules.specs.State.{used as used_of}
use Rattle.rules.specs.Opening.{up_from}
use Rattle.rules.specs.Packing.{packed}
use Rattle.queue_event.specs.Chain.{Rec}
use Rattle.layout.specs.Places.{Has}
use Rattle.layout.specs.Spare.{Spare, Open}
use Rattle.layout.specs.Layout.{state_from, state_of}
use Rattle.layout.specs.Accepted.{Accepted, room}
use Rattle.layout.specs.Packed.{chain_words, used_in, free_in, packed_records, chain_recs, packed_words}
use Rattle.layout.proofs.Counts.{used_is}
use Rattle.layout.proofs.PackedChains.{length_chain}
use Rattle.layout.proofs.PackedBack.{length_free, chain_stands}
use Rattle.layout.proofs.PackedHeader.{from_rest, from_spare}
use Rattle.layout.proofs.PackedGood.{used_all, used_fits, old_word}
use Rattle.layout.proofs.PackedState.{packed_state}

-- ---- the header

pub packed_spare : (w : List ℕ) (i : ℕ) → Spare i → get_or (packed_words w) i 0 ≡ 0
unfolding packed_words
packed_spare w i s = from_spare _ _ _ i s

-- ---- free records

-- of records of zeros only the links are not 0
zeros_words : (p n j : ℕ) (x : Rec) → x.moment ≡ 0 → x.size ≡ 0 → x.tag ≡ 0 → 0 < j % 4 → get_or (chain_words p (replicate n x)) j 0 ≡ 0
unfolding chain_words
zeros_words p zero j x a b c l = refl
zeros_words p (suc n) zero x a b c l = absurd (omega arith)
zeros_words p (suc n) (suc zero) x a b c l = a
zeros_words p (suc n) (suc (suc zero)) x a b c l = b
zeros_words p (suc n) (suc (suc (suc zero))) x a b c l = c
zeros_words p (suc n) (suc (suc (suc (suc j)))) x a b c l = zeros_words (suc p) n j x a b c (omega arith)

up_within : (p n q : ℕ) → Has q (up_from p n) → (p ≤ q) × (q < p + n)
unfolding Has
up_within p zero q y = absurd y
up_within p (suc n) q (inl e) = (omega arith, omega arith)
up_within p (suc n) q (inr y) = let z = up_within (suc p) n q y in (omega (arith, z.0), omega (arith, z.1))

-- word i of the records, where it is the moment, the length or the tag of a record that is not used
free_word : (c : ℕ → List Rec) (r i : ℕ) → used_in c ≤ r → 0 < i % 4 → 4 * used_in c ≤ i → i < 4 * r → get_or (packed_records c r) i 0 ≡ 0
free_word c r i fits m a b =
    ap (λ k. get_or (packed_records c r) k 0) place ∙ chain_stands c r fits 0 (omega arith) (i - 4 * used_in c) inside ∙ nothing
  where
    place : i ≡ 4 * suc (used_in c) - 4 + (i - 4 * used_in c)
    place = omega arith

    inside : i - 4 * used_in c < length (chain_words (suc (used_in c)) (free_in c r))
    inside = omega (arith, length_chain (suc (used_in c)) (free_in c r), length_free c r)

    nothing : get_or (chain_words (suc (used_in c)) (free_in c r)) (i - 4 * used_in c) 0 ≡ 0
    nothing = zeros_words (suc (used_in c)) (r - used_in c) (i - 4 * used_in c) _ refl refl refl (omega arith)

module _ (w : List ℕ) (a : Accepted w) where
  abbrev c : ℕ → List Rec
  c = chain_recs (take 256 w) (drop 256 w)

  abbrev r : ℕ
  r = room (drop 256 w)

  fits : used_in c ≤ r
  fits = used_fits (take 256 w) (drop 256 w) (λ i. get_or w i 0) (old_word w) a.good

  -- the free records are those after the used ones
  free_are : (state_of (packed_words w)).free ≡ up_from (1 + used_in c) (r - used_in c)
  unfolding packed state_from
  free_are = ap (λ s. s.free) (packed_state w a) ∙ (λ d. up_from (1 + same d) (r - same d))
    where
      same : used_of (state_from (take 256 w) (drop 256 w)) ≡ used_in c
      same = used_is (take 256 w) (drop 256 w) a.good.counts ∙ sym (used_all (take 256 w) (drop 256 w) (λ i. get_or w i 0) (old_word w) a.good)

  record_word_lem : (i : ℕ) → get_or (packed_words w) (256 + i) 0 ≡ get_or (packed_records c r) i 0
  unfolding packed_words
  record_word_lem i = sym (get_or-drop 256 (packed_words w) i 0) ∙ ap (λ l. get_or l i 0) (from_rest (λ i. get_or w i 0) c r)

  pub packed_open : (i : ℕ) → Open (packed_words w) i → get_or (packed_words w) i 0 ≡ 0
  packed_open i (l, (m, y)) =
      let z = up_within (1 + used_in c) (r - used_in c) (suc ((i - 256) / 4)) (subst (Has (suc ((i - 256) / 4))) free_are y) in
      let q : i ≡ 256 + (i - 256) = omega arith in
      ap (λ k. get_or (packed_words w) k 0) q ∙ record_word_lem (i - 256)
      ∙ free_word c r (i - 256) fits (omega arith) (omega (arith, z.0)) (omega (arith, z.1, fits))
