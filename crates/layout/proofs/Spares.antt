-- The words without a meaning, by their bounds: none is read or written by what works on settings, chains or slots. Assumes nothing.
use Prim.Native.Nat.{ℕ, ◌≤◌, ◌<◌}
use mathlib.Core.Path.{◌≡◌, refl, ap₂}
use mathlib.Core.Bool.{Bool, true, false, ◌&&◌, ◌||◌}
use mathlib.Core.Logic.{◌⊎◌, inl, inr}
use native.Mathlib.Omega.{arith}
use lib.Dec.{leb, ltb}
use borrow.Author.Tests.{leb-true, le-leb, ltb-true, lt-ltb}
use Rattle.layout.specs.Spare.{spare, Spare}
use Rattle.layout.proofs.Deciding.{false_true}

-- where they stand
abbrev pub SpareAt : ℕ → Type 0
SpareAt i = ((18 ≤ i) × (i < 24)) ⊎ ((48 ≤ i) × (i < 64)) ⊎ ((192 ≤ i) × (i < 256))

between : (a b i : ℕ) → (leb a i && ltb i b) ≡ true → (a ≤ i) × (i < b)
between a b i e = go (leb a i) refl (ltb i b) refl e
  where
    go : (x : Bool) → leb a i ≡ x → (y : Bool) → ltb i b ≡ y → (x && y) ≡ true → (a ≤ i) × (i < b)
    go true p true q e = (leb-true a i p, ltb-true i b q)
    go true p false q e = false_true e
    go false p y q e = false_true e

within : (a b i : ℕ) → a ≤ i → i < b → (leb a i && ltb i b) ≡ true
within a b i l m = ap₂ (λ (x y : Bool). x && y) (le-leb a i l) (lt-ltb i b m)

pub spare_at_lem : (i : ℕ) → Spare i → SpareAt i
unfolding spare
spare_at_lem i s = go (leb 18 i && ltb i 24) refl (leb 48 i && ltb i 64) refl (leb 192 i && ltb i 256) refl s
  where
    go :
        (x : Bool) → (leb 18 i && ltb i 24) ≡ x → (y : Bool) → (leb 48 i && ltb i 64) ≡ y → (z : Bool) → (leb 192 i && ltb i 256) ≡ z
        → (x || y || z) ≡ true → SpareAt i
    go true p y q z r e = inl (between 18 24 i p)
    go false p true q z r e = inr (inl (between 48 64 i q))
    go false p false q true r e = inr (inr (between 192 256 i r))
    go false p false q false r e = false_true e

pub spare_low : (i : ℕ) → 18 ≤ i → i < 24 → Spare i
unfolding spare
spare_low i l m = rw (within 18 24 i l m) refl

pub spare_middle : (i : ℕ) → 48 ≤ i → i < 64 → Spare i
unfolding spare
spare_middle i l m = rw (within 48 64 i l m) (either (leb 18 i && ltb i 24) (leb 192 i && ltb i 256))
  where
    either : (x z : Bool) → (x || true || z) ≡ true
    either true z = refl
    either false z = refl

pub spare_last : (i : ℕ) → 192 ≤ i → i < 256 → Spare i
unfolding spare
spare_last i l m = rw (within 192 256 i l m) (either (leb 18 i && ltb i 24) (leb 48 i && ltb i 64))
  where
    either : (x y : Bool) → (x || y || true) ≡ true
    either true y = refl
    either false true = refl
    either false false = refl

-- they are words of the header, past the settings, beside the chains and beside the slots
pub spare_head : (i : ℕ) → Spare i → (18 ≤ i) × (i < 256)
spare_head i s = go (spare_at_lem i s)
  where
    go : SpareAt i → (18 ≤ i) × (i < 256)
    go (inl x) = (x.0, omega (arith, x.1))
    go (inr (inl x)) = (omega (arith, x.0), omega (arith, x.1))
    go (inr (inr x)) = (omega (arith, x.0), x.1)

pub spare_chains : (i : ℕ) → Spare i → (i < 24) ⊎ (48 ≤ i)
spare_chains i s = go (spare_at_lem i s)
  where
    go : SpareAt i → (i < 24) ⊎ (48 ≤ i)
    go (inl x) = inl x.1
    go (inr (inl x)) = inr x.0
    go (inr (inr x)) = inr (omega (arith, x.0))

pub spare_slots : (i j : ℕ) → Spare i → 64 ≤ j → j < 192 → i ≡ j → ⊥
spare_slots i j s a b e = go (spare_at_lem i s)
  where
    go : SpareAt i → ⊥
    go (inl x) = omega (arith, x.1)
    go (inr (inl x)) = omega (arith, x.1)
    go (inr (inr x)) = omega (arith, x.0)
