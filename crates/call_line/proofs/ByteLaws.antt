-- What the tests of a byte and of a place have shown, as the definitions have it. Assumes nothing.
use Prim.Native.Nat.{ℕ, ◌≤◌}
use mathlib.Core.Path.{◌≡◌, refl, sym, ap, ◌∙◌}
use mathlib.Core.Bool.{Bool, true, false}
use native.Mathlib.Omega.{arith}
use lib.Dec.{eqb, leb}
use borrow.Author.Tests.{le-leb, leb-true}
use Rattle.std.specs.Prelude.{if◌then◌else◌}
use Rattle.call_line.specs.Numerals.{is_digit}
use Rattle.call_line.specs.Steps.{in_comment_place, passes_over}
use Rattle.call_line.specs.declared.line.Line.{Line as Kept}
use Rattle.call_line.specs.declared.line.Place.{Place}
use Rattle.call_line.specs.declared.line.Place.TheVariants.{FirstWord, Arguments, Comment, FirstWordCr, ArgumentsCr}

-- ---- digits

pub digit_else : (b : ℕ) → 48 ≤ b → leb b 57 ≡ is_digit b
digit_else b high = simp (le-leb 48 b high)

pub digit_low : (b : ℕ) → is_digit b ≡ true → 48 ≤ b
digit_low b e = by (leb 48 b) refl e
  where
    by : (x : Bool) → leb 48 b ≡ x → (if x then leb b 57 else false) ≡ true → 48 ≤ b
    by true l h = leb-true 48 b l
    by false l h = absurd (never h)
      where
        never : false ≡ true → ⊥
        never d = let z : ◌≡◌ {A = ℕ} 0 1 = cc in omega arith

pub digit_high : (b : ℕ) → is_digit b ≡ true → b ≤ 57
digit_high b e = leb-true b 57 (digit_else b (digit_low b e) ∙ e)

-- ---- a line that is passed over

pub passes_comment : (k : Kept) → k.place ≡ Comment → true ≡ passes_over k
passes_comment k e = sym (ap (λ (p : Place). if in_comment_place p then true else eqb k.letters 0) e)

pub passes_else : (k : Kept) → (k.place ≡ Comment → ⊥) → eqb k.letters 0 ≡ passes_over k
passes_else k other = by k.place other
  where
    by : (p : Place) → (p ≡ Comment → ⊥) → eqb k.letters 0 ≡ (if in_comment_place p then true else eqb k.letters 0)
    by FirstWord o = refl
    by Arguments o = refl
    by Comment o = absurd (o refl)
    by FirstWordCr o = refl
    by ArgumentsCr o = refl
