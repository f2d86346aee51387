-- One byte more of an argument: what the code keeps is the form and the value of the longer word. Assumes nothing.
use Prim.Native.Nat.{ℕ, ◌+◌, ◌*◌, ◌-◌, ◌≤◌}
use mathlib.Core.Path.{◌≡◌, refl, sym, ap, subst, ◌∙◌}
use mathlib.Core.Bool.{Bool, true, false, not}
use mathlib.Core.List.{List, [], ◌∷◌, ◌++◌}
use native.Mathlib.Omega.{arith}
use lib.Dec.{leb}
use borrow.Author.Tests.{not-true, not-false}
use Rattle.std.specs.Prelude.{if◌then◌else◌}
use Rattle.call_words.specs.Shapes.{numeric}
use Rattle.call_line.specs.Numerals.{is_digit, decimal_from, is_number, form_of, value_of}
use Rattle.call_line.specs.Steps.{longer_of, spoilt_of, Joins, LateDigit}
use Rattle.call_line.specs.declared.line.Line.{Line as Kept}
use Rattle.std.specs.Prelude.{Option, Some, None}
use Rattle.call_words.specs.declared.shapes.Form.{Form}
use Rattle.call_words.specs.declared.shapes.Form.TheVariants.{NoWord, Number}
use Rattle.call_line.proofs.ByteLaws.{digit_low, digit_high}
use Rattle.call_line.proofs.OneByteLaws.{value_digit}
use Rattle.call_line.proofs.NumeralLaws.{number_with, numeric_word, no_word, some_word, number_value, other_form, other_value, number_form, number_with_lem}

-- ---- the number

-- a digit's value
digit_value : (b : ℕ) → is_digit b ≡ true → value_of (b ∷ []) ≡ b - 48
digit_value b digit = sym (value_digit b (digit_low b digit) (digit_high b digit))

was_large : (n d : ℕ) → None ≡ longer_of n d → leb (n * 10 + d) 18446744073709551615 ≡ false
was_large n d e = by (leb (n * 10 + d) 18446744073709551615) e
  where
    by : (fits : Bool) → None ≡ (if fits then Some (n * 10 + d) else None) → fits ≡ false
    by true h = cc
    by false h = refl

did_fit : (n d m : ℕ) → Some m ≡ longer_of n d → (leb (n * 10 + d) 18446744073709551615 ≡ true) × (m ≡ n * 10 + d)
did_fit n d m e = by (leb (n * 10 + d) 18446744073709551615) e
  where
    by : (fits : Bool) → Some m ≡ (if fits then Some (n * 10 + d) else None) → (fits ≡ true) × (m ≡ n * 10 + d)
    by true h = (refl, cc)
    by false h = (cc, cc)

-- ---- the word's first byte

pub joins_first :
    (k : Kept) (b : ℕ) (form : Form) (number : ℕ) → k.form ≡ NoWord → form ≡ form_of (b ∷ []) → number ≡ value_of (b ∷ [])
    → Joins k b (record { place = k.place; letters = k.letters; arguments = k.arguments; form = form; number = number })
joins_first k b form number none f v =
    record {
      place = refl;
      letters = refl;
      arguments = refl;
      word = λ w is _.
          let empty : [] ≡ w = sym (no_word w (sym is ∙ none)) in (
            subst (λ (u : List ℕ). form ≡ form_of (u ++ (b ∷ []))) empty f,
            subst (λ (u : List ℕ). number ≡ value_of (u ++ (b ∷ []))) empty v,
          );
    }

-- ---- a word that is no number with this byte

spoils :
    (k : Kept) (b : ℕ) (r : Kept) → r ≡ spoilt_of k → (k.form ≡ NoWord → ⊥)
    → ((w : List ℕ) → k.form ≡ form_of w → k.number ≡ value_of w → number_with (is_number w) (decimal_from 0 w) b ≡ false)
    → Joins k b r
spoils k b r e some none =
    subst (Joins k b) (sym e)
    (record {
      place = refl;
      letters = refl;
      arguments = refl;
      word = λ w is value.
          let more : w ≡ [] → ⊥ = some_word w (λ z. some (is ∙ z)) in
          (sym (other_form w b more (none w is value)), sym (other_value w b more (none w is value)));
    })

no_number : (was : Bool) (n b : ℕ) → was ≡ false → number_with was n b ≡ false
no_number was n b e = simp e

-- what precedes is no number
no_number_before : (k : Kept) (b : ℕ) (r : Kept) → r ≡ spoilt_of k → (k.form ≡ NoWord → ⊥) → numeric k.form ≡ false → Joins k b r
no_number_before k b r e some other =
    spoils k b r e some
    (λ w is _. no_number (is_number w) (decimal_from 0 w) b (sym (numeric_word w) ∙ ap numeric (sym is) ∙ other))

pub joins_other :
    (k : Kept) (b : ℕ) (r : Kept) (test : Bool) → r ≡ spoilt_of k → (k.form ≡ NoWord → ⊥) → test ≡ numeric k.form → not test ≡ true → Joins k b r
joins_other k b r test e some is other = no_number_before k b r e some (sym is ∙ not-true test other)

-- the byte is no digit, or comes after a CR
pub joins_late : (k : Kept) (b : ℕ) (r : Kept) → r ≡ spoilt_of k → (k.form ≡ NoWord → ⊥) → LateDigit k b → Joins k b r
joins_late k b r e some late = by (is_digit b) refl
  where
    no_digit : (was digit fits : Bool) → digit ≡ false → (if was then if digit then fits else false else false) ≡ false
    no_digit true true fits d = cc
    no_digit true false fits d = refl
    no_digit false digit fits d = refl

    by : (digit : Bool) → is_digit b ≡ digit → Joins k b r
    by true d = no_number_before k b r e some (ap numeric (late d))
    by false d =
        spoils k b r e some
        (λ w is _. no_digit (is_number w) (is_digit b) (leb (decimal_from 0 w * 10 + (b - 48)) 18446744073709551615) d)

-- ---- a number and a digit

module _
    (k : Kept) (b d : ℕ) (test : Bool) (digit : is_digit b ≡ true) (is : test ≡ numeric k.form) (passed : not test ≡ false)
    (some : k.form ≡ NoWord → ⊥) (is-d : d ≡ value_of (b ∷ []))
  where
    number : numeric k.form ≡ true
    number = sym is ∙ not-false test passed

    -- the test, in terms of the word
    tested : (w : List ℕ) (fits : Bool) → k.form ≡ form_of w → k.number ≡ value_of w → leb (k.number * 10 + d) 18446744073709551615 ≡ fits
        → number_with (is_number w) (decimal_from 0 w) b ≡ fits
    tested w fits form value e =
        let was : is_number w ≡ true = sym (numeric_word w) ∙ ap numeric (sym form) ∙ number in
        let n : decimal_from 0 w ≡ k.number = sym (value ∙ number_value w was) in
        let last : b - 48 ≡ d = sym (is-d ∙ digit_value b digit) in
        simp (was, digit, n, last) e

    pub joins_large : (r : Kept) (m : Option ℕ) → r ≡ spoilt_of k → m ≡ longer_of k.number d → m ≡ None → Joins k b r
    joins_large r m e longer large =
        spoils k b r e some (λ w form value. tested w false form value (was_large k.number d (sym large ∙ longer)))

    pub joins_number :
        (n : ℕ) (m : Option ℕ) → m ≡ longer_of k.number d → m ≡ Some n
        → Joins k b (record { place = k.place; letters = k.letters; arguments = k.arguments; form = Number; number = n })
    joins_number n m longer is-n =
        let fit = did_fit k.number d n (sym is-n ∙ longer) in
        record {
          place = refl;
          letters = refl;
          arguments = refl;
          word = λ w form value.
              let more : w ≡ [] → ⊥ = some_word w (λ z. some (form ∙ z)) in
              let ok = tested w true form value fit.0 in
              let was : is_number w ≡ true = sym (numeric_word w) ∙ ap numeric (sym form) ∙ number in
              let before : k.number ≡ decimal_from 0 w = value ∙ number_value w was in
              let last : d ≡ b - 48 = is-d ∙ digit_value b digit in
              let sum : n ≡ decimal_from 0 w * 10 + (b - 48) = omega (arith, before, last, fit.1) in
              (sym (number_form w b more ok), sum ∙ sym (number_with_lem w b more ok));
        }
