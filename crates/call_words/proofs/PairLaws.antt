-- Two lists, walked in step: the walk is the library's, of `==` and of `zip`. Assumes nothing.
use Prim.Native.Nat.{ℕ, suc, ◌≤◌}
use mathlib.Core.Path.{◌≡◌, refl, sym, ap, ◌∙◌}
use mathlib.Core.Bool.{Bool, true, false, ◌&&◌}
use mathlib.Core.List.{List, [], ◌∷◌}
use native.Mathlib.Omega.{arith}
use lib.ListN.{length}
use Rattle.std.specs.Prelude.{if◌then◌else◌}
use Rattle.std.specs.Str.{bytes_eq}
use Rattle.std.specs.List.{list_all, zip}
use Rattle.call_words.specs.Text.{same}
use Rattle.call_words.specs.Shapes.{stands, fits}
use Rattle.call_words.specs.declared.shapes.Argument.{Argument}

and_is : (x r q : Bool) → r ≡ q → (if x then r else false) ≡ (x && q)
and_is true r q e = e
and_is false r q e = refl

-- `==` of two texts
same_is : (s t : List ℕ) → same s t ≡ bytes_eq s t
same_is [] [] = refl
same_is [] (b ∷ t) = refl
same_is (a ∷ s) [] = refl
same_is (a ∷ s) (b ∷ t) = and_is _ _ _ (same_is s t)

pub same_text : (s t : List ℕ) (r : Bool) → r ≡ bytes_eq s t → r ≡ same s t
same_text s t r e = e ∙ sym (same_is s t)

-- a test of each pair, where there are as many
pub fits_all :
    (a : List Argument) (s : List ℕ) → length a ≡ length s
    → list_all (λ (p : Argument × ℕ). stands p.0.form p.1) (zip a s) ≡ fits a s
fits_all [] [] e = refl
fits_all [] (b ∷ t) e = absurd (omega arith)
fits_all (x ∷ a) [] e = absurd (omega arith)
fits_all (x ∷ a) (b ∷ t) e = sym (and_is _ _ _ (sym (fits_all a t (omega arith))))

pub fits_length : (a : List Argument) (s : List ℕ) → fits a s ≡ true → length s ≤ length a
fits_length [] [] e = omega arith
fits_length [] (b ∷ t) e = cc
fits_length (x ∷ a) [] e = omega arith
fits_length (x ∷ a) (b ∷ t) e = let h : fits a t ≡ true = passed _ _ e in omega (arith, fits_length a t h)
  where
    passed : (y r : Bool) → (if y then r else false) ≡ true → r ≡ true
    passed true r q = q
    passed false r q = cc

pub fits_other : (a : List Argument) (s : List ℕ) → (length a ≡ length s → ⊥) → false ≡ fits a s
fits_other [] [] d = absurd (d refl)
fits_other [] (b ∷ t) d = refl
fits_other (x ∷ a) [] d = refl
fits_other (x ∷ a) (b ∷ t) d = none _ _ (fits_other a t (λ e. d (ap suc e)))
  where
    none : (y r : Bool) → false ≡ r → false ≡ (if y then r else false)
    none true r e = e
    none false r e = refl
