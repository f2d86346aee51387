-- The form and the value of a word of one byte, by its tests. Assumes nothing.
use Prim.Native.Nat.{ℕ, ◌+◌, ◌*◌, ◌-◌, ◌≤◌, ◌<◌}
use mathlib.Core.Path.{◌≡◌, refl, sym, ap}
use mathlib.Core.Bool.{Bool, true, false}
use mathlib.Core.List.{[], ◌∷◌}
use native.Mathlib.Omega.{arith}
use lib.Dec.{eqb}
use borrow.Author.Tests.{le-leb, lt-leb, ne_eqb, eqb-true, eqb-false}
use Rattle.call_line.specs.Numerals.{form_of, value_of}
use Rattle.call_words.specs.declared.shapes.Form.TheVariants.{Flag, Number, Side, Absent, Other}

-- ---- its form

pub form_absent : (b : ℕ) → b ≡ 45 → Absent ≡ form_of (b ∷ [])
unfolding form_of
form_absent b e = ap (λ (x : ℕ). form_of (x ∷ [])) (sym e)

pub form_side_client : (b : ℕ) → b ≡ 99 → Side ≡ form_of (b ∷ [])
unfolding form_of
form_side_client b e = ap (λ (x : ℕ). form_of (x ∷ [])) (sym e)

pub form_side_server : (b : ℕ) → b ≡ 115 → Side ≡ form_of (b ∷ [])
unfolding form_of
form_side_server b e = ap (λ (x : ℕ). form_of (x ∷ [])) (sym e)

pub form_flag : (b : ℕ) → 48 ≤ b → b ≤ 49 → Flag ≡ form_of (b ∷ [])
unfolding form_of
form_flag b low high = by (eqb b 48) refl
  where
    by : (zero : Bool) → eqb b 48 ≡ zero → Flag ≡ form_of (b ∷ [])
    by true e = ap (λ (x : ℕ). form_of (x ∷ [])) (sym (eqb-true b 48 e))
    by false e =
        let one : 49 ≡ b = omega (arith, eqb-false b 48 e) in
        ap (λ (x : ℕ). form_of (x ∷ [])) one

pub form_digit : (b : ℕ) → 49 < b → b ≤ 57 → Number ≡ form_of (b ∷ [])
unfolding form_of
form_digit b low high =
    simp (
      ne_eqb b 48 (λ e. omega (arith, e)),
      ne_eqb b 49 (λ e. omega (arith, e)),
      le-leb 48 b (omega arith),
      le-leb b 57 high,
      le-leb (0 * 10 + (b - 48)) 18446744073709551615 (omega arith),
    )

pub form_low : (b : ℕ) → b < 48 → (b ≡ 45 → ⊥) → Other ≡ form_of (b ∷ [])
unfolding form_of
form_low b low other =
    simp (
      ne_eqb b 48 (λ e. omega (arith, e)),
      ne_eqb b 49 (λ e. omega (arith, e)),
      lt-leb 48 b low,
      ne_eqb b 99 (λ e. omega (arith, e)),
      ne_eqb b 115 (λ e. omega (arith, e)),
      ne_eqb b 45 other,
    )

pub form_high : (b : ℕ) → 57 < b → (b ≡ 99 → ⊥) → (b ≡ 115 → ⊥) → Other ≡ form_of (b ∷ [])
unfolding form_of
form_high b high client server =
    simp (
      ne_eqb b 48 (λ e. omega (arith, e)),
      ne_eqb b 49 (λ e. omega (arith, e)),
      le-leb 48 b (omega arith),
      lt-leb b 57 high,
      ne_eqb b 99 client,
      ne_eqb b 115 server,
      ne_eqb b 45 (λ e. omega (arith, e)),
    )

-- ---- its value

pub value_client : (b : ℕ) → b ≡ 99 → 1 ≡ value_of (b ∷ [])
unfolding value_of
value_client b e = ap (λ (x : ℕ). value_of (x ∷ [])) (sym e)

pub value_low : (b : ℕ) → b < 48 → 0 ≡ value_of (b ∷ [])
unfolding value_of
value_low b low = simp (lt-leb 48 b low, ne_eqb b 99 (λ e. omega (arith, e)))

pub value_high : (b : ℕ) → 57 < b → (b ≡ 99 → ⊥) → 0 ≡ value_of (b ∷ [])
unfolding value_of
value_high b high client = simp (le-leb 48 b (omega arith), lt-leb b 57 high, ne_eqb b 99 client)

pub value_digit : (b : ℕ) → 48 ≤ b → b ≤ 57 → b - 48 ≡ value_of (b ∷ [])
unfolding value_of
value_digit b low high =
    simp
    (le-leb 48 b low, le-leb b 57 high, le-leb (0 * 10 + (b - 48)) 18446744073709551615 (omega arith))
    (omega arith)
