-- The form and the value of a word with one byte more. Assumes nothing.
use Prim.Native.Nat.{ℕ, ◌+◌, ◌*◌, ◌-◌}
use mathlib.Core.Path.{◌≡◌, refl, sym, ap, ◌∙◌}
use mathlib.Core.Bool.{Bool, true, false}
use mathlib.Core.List.{List, [], ◌∷◌, ◌++◌}
use native.Mathlib.Omega.{arith}
use lib.Dec.{eqb, leb}
use borrow.Author.Tests.{leb-false, lt-leb, eqb-true}
use Rattle.std.specs.Prelude.{if◌then◌else◌}
use Rattle.call_words.specs.Text.{same}
use Rattle.call_words.specs.Shapes.{numeric}
use Rattle.call_words.specs.declared.shapes.Form.{Form}
use Rattle.call_words.specs.declared.shapes.Form.TheVariants.{NoWord, Flag, Number, Side, Absent, Other}
use Rattle.call_line.specs.Numerals.{is_digit, are_digits, decimal_from, is_number, is_flag, is_side, is_absent, form_of, value_of}

-- ---- digits

digits_snoc : (w : List ℕ) (b : ℕ) → are_digits (w ++ (b ∷ [])) ≡ (if are_digits w then is_digit b else false)
digits_snoc [] b = whole (is_digit b)
  where
    whole : (x : Bool) → (if x then true else false) ≡ x
    whole true = refl
    whole false = refl
digits_snoc (a ∷ w) b = by (is_digit a) (digits_snoc w b)
  where
    by :
        (x : Bool) → are_digits (w ++ (b ∷ [])) ≡ (if are_digits w then is_digit b else false)
        → (if x then are_digits (w ++ (b ∷ [])) else false) ≡ (if (if x then are_digits w else false) then is_digit b else false)
    by true h = h
    by false h = refl

decimal_snoc : (n : ℕ) (w : List ℕ) (b : ℕ) → decimal_from n (w ++ (b ∷ [])) ≡ decimal_from n w * 10 + (b - 48)
decimal_snoc n [] b = refl
decimal_snoc n (a ∷ w) b = decimal_snoc (n * 10 + (a - 48)) w b

-- whether a word is a number, with one byte more: it was one, the byte is a digit, and the number is not too large
abbrev pub number_with : Bool → ℕ → ℕ → Bool
number_with was value b = if was then if is_digit b then leb (value * 10 + (b - 48)) 18446744073709551615 else false else false

number_snoc :
    (c : ℕ) (u : List ℕ) (b : ℕ) → is_number (c ∷ (u ++ (b ∷ []))) ≡ number_with (is_number (c ∷ u)) (decimal_from 0 (c ∷ u)) b
number_snoc c u b =
    let value = decimal_from 0 (c ∷ u) in
    ap (λ (d : Bool). if d then leb (decimal_from 0 (c ∷ (u ++ (b ∷ [])))) 18446744073709551615 else false) (digits_snoc (c ∷ u) b)
    ∙ ap
    (λ (n : ℕ). if (if are_digits (c ∷ u) then is_digit b else false) then leb n 18446744073709551615 else false)
    (decimal_snoc 0 (c ∷ u) b)
    ∙ by (are_digits (c ∷ u)) (is_digit b) (leb value 18446744073709551615) (leb (value * 10 + (b - 48)) 18446744073709551615)
    (λ large. lt-leb (value * 10 + (b - 48)) 18446744073709551615 (omega (arith, leb-false value 18446744073709551615 large)))
  where
    by :
        (digits digit fits fit : Bool) → (fits ≡ false → fit ≡ false)
        → (if (if digits then digit else false) then fit else false)
        ≡ (if (if digits then fits else false) then if digit then fit else false else false)
    by true true true fit h = refl
    by true true false fit h = h refl
    by true false true fit h = refl
    by true false false fit h = refl
    by false digit fits fit h = refl

-- ---- a word of two bytes or more

never_empty : (u : List ℕ) (b : ℕ) → same (u ++ (b ∷ [])) [] ≡ false
never_empty [] b = refl
never_empty (a ∷ u) b = refl

one_byte : (c d : ℕ) (u : List ℕ) (b : ℕ) → same (c ∷ (u ++ (b ∷ []))) (d ∷ []) ≡ false
one_byte c d u b = by (eqb c d) (never_empty u b)
  where
    by : (x : Bool) → same (u ++ (b ∷ [])) [] ≡ false → (if x then same (u ++ (b ∷ [])) [] else false) ≡ false
    by true h = h
    by false h = refl

form_long : (c : ℕ) (u : List ℕ) (b : ℕ) → form_of (c ∷ (u ++ (b ∷ []))) ≡ (if is_number (c ∷ (u ++ (b ∷ []))) then Number else Other)
unfolding form_of
form_long c u b =
    by (is_number (c ∷ (u ++ (b ∷ [])))) (one_byte c 48 u b) (one_byte c 49 u b) (one_byte c 99 u b) (one_byte c 115 u b) (one_byte c 45 u b)
  where
    by :
        {zero one client server none : Bool} (number : Bool)
        → zero ≡ false → one ≡ false → client ≡ false → server ≡ false → none ≡ false
        → ◌≡◌ {A = Form}
        (if (if zero then true else one) then Flag
        else if number then Number else if (if client then true else server) then Side else if none then Absent else Other)
        (if number then Number else Other)
    by number z o c s n = simp (z, o, c, s, n)

value_long :
    (c : ℕ) (u : List ℕ) (b : ℕ)
    → value_of (c ∷ (u ++ (b ∷ []))) ≡ (if is_number (c ∷ (u ++ (b ∷ []))) then decimal_from 0 (c ∷ u) * 10 + (b - 48) else 0)
unfolding value_of
value_long c u b = simp (one_byte c 99 u b, decimal_snoc 0 (c ∷ u) b)

-- ---- a word's form says whether it is a number

flag_one : (c : ℕ) → is_flag (c ∷ []) ≡ true → is_number (c ∷ []) ≡ true
flag_one c e = by (eqb c 48) (eqb c 49) refl refl e
  where
    by :
        (zero one : Bool) → eqb c 48 ≡ zero → eqb c 49 ≡ one
        → (if (if zero then true else false) then true else (if one then true else false)) ≡ true → is_number (c ∷ []) ≡ true
    by true one z o h = ap (λ (x : ℕ). is_number (x ∷ [])) (eqb-true c 48 z)
    by false true z o h = ap (λ (x : ℕ). is_number (x ∷ [])) (eqb-true c 49 o)
    by false false z o h = cc

numeric_by :
    (flag number side none : Bool) → (flag ≡ true → number ≡ true)
    → numeric (if flag then Flag else if number then Number else if side then Side else if none then Absent else Other) ≡ number
numeric_by true number side none h = sym (h refl)
numeric_by false true side none h = refl
numeric_by false false true none h = refl
numeric_by false false false true h = refl
numeric_by false false false false h = refl

pub numeric_word : (w : List ℕ) → numeric (form_of w) ≡ is_number w
unfolding form_of
numeric_word [] = refl
numeric_word (c ∷ []) = numeric_by (is_flag (c ∷ [])) (is_number (c ∷ [])) (is_side (c ∷ [])) (is_absent (c ∷ [])) (flag_one c)
numeric_word (c ∷ d ∷ u) =
    numeric_by (is_flag (c ∷ d ∷ u)) (is_number (c ∷ d ∷ u)) (is_side (c ∷ d ∷ u)) (is_absent (c ∷ d ∷ u)) (long (eqb c 48) (eqb c 49))
  where
    long : (zero one : Bool) → (if (if zero then false else false) then true else (if one then false else false)) ≡ true → is_number (c ∷ d ∷ u) ≡ true
    long true true h = cc
    long true false h = cc
    long false true h = cc
    long false false h = cc

-- form 0 is that of no word
form_by :
    (flag number side none : Bool)
    → ◌≡◌ {A = Form} (if flag then Flag else if number then Number else if side then Side else if none then Absent else Other) NoWord → ⊥
form_by true number side none h = cc
form_by false true side none h = cc
form_by false false true none h = cc
form_by false false false true h = cc
form_by false false false false h = cc

pub no_word : (w : List ℕ) → form_of w ≡ NoWord → w ≡ []
unfolding form_of
no_word [] e = refl
no_word (c ∷ u) e = absurd (form_by (is_flag (c ∷ u)) (is_number (c ∷ u)) (is_side (c ∷ u)) (is_absent (c ∷ u)) e)

pub some_word : (w : List ℕ) → (form_of w ≡ NoWord → ⊥) → w ≡ [] → ⊥
unfolding form_of
some_word w some e = some (ap form_of e)

some_cons : (c : ℕ) (u : List ℕ) → ◌≡◌ {A = List ℕ} (c ∷ u) [] → ⊥
some_cons c u e =
    let z : ◌≡◌ {A = ℕ} 0 1 = cc in
    omega arith

pub number_value : (w : List ℕ) → is_number w ≡ true → value_of w ≡ decimal_from 0 w
unfolding value_of
number_value w e = simp e

-- ---- one byte more

-- of a word that is no number, or where the byte is no digit, or too large
pub other_form : (w : List ℕ) (b : ℕ) → (w ≡ [] → ⊥) → number_with (is_number w) (decimal_from 0 w) b ≡ false → form_of (w ++ (b ∷ [])) ≡ Other
other_form [] b some e = absurd (some refl)
other_form (c ∷ u) b some e = form_long c u b ∙ ap (λ (n : Bool). if n then Number else Other) (number_snoc c u b ∙ e)

pub other_value : (w : List ℕ) (b : ℕ) → (w ≡ [] → ⊥) → number_with (is_number w) (decimal_from 0 w) b ≡ false → value_of (w ++ (b ∷ [])) ≡ 0
other_value [] b some e = absurd (some refl)
other_value (c ∷ u) b some e =
    value_long c u b ∙ ap (λ (n : Bool). if n then decimal_from 0 (c ∷ u) * 10 + (b - 48) else 0) (number_snoc c u b ∙ e)

-- of a number that a digit makes no number too large
pub number_form : (w : List ℕ) (b : ℕ) → (w ≡ [] → ⊥) → number_with (is_number w) (decimal_from 0 w) b ≡ true → form_of (w ++ (b ∷ [])) ≡ Number
number_form [] b some e = absurd (some refl)
number_form (c ∷ u) b some e = form_long c u b ∙ ap (λ (n : Bool). if n then Number else Other) (number_snoc c u b ∙ e)

pub number_with_lem :
    (w : List ℕ) (b : ℕ) → (w ≡ [] → ⊥) → number_with (is_number w) (decimal_from 0 w) b ≡ true
    → value_of (w ++ (b ∷ [])) ≡ decimal_from 0 w * 10 + (b - 48)
number_with_lem [] b some e = absurd (some refl)
number_with_lem (c ∷ u) b some e =
    value_long c u b ∙ ap (λ (n : Bool). if n then decimal_from 0 (c ∷ u) * 10 + (b - 48) else 0) (number_snoc c u b ∙ e)

-- a CR is no digit
never_with_cr : (was : Bool) (n : ℕ) → number_with was n 13 ≡ false
never_with_cr true n = refl
never_with_cr false n = refl

pub cr_form : (w : List ℕ) → Other ≡ form_of (w ++ (13 ∷ []))
unfolding form_of
cr_form [] = refl
cr_form (c ∷ u) =
    let digits = never_with_cr (is_number (c ∷ u)) (decimal_from 0 (c ∷ u)) in
    sym (other_form (c ∷ u) 13 (some_cons c u) digits)

pub cr_value : (w : List ℕ) → 0 ≡ value_of (w ++ (13 ∷ []))
unfolding value_of
cr_value [] = refl
cr_value (c ∷ u) =
    let digits = never_with_cr (is_number (c ∷ u)) (decimal_from 0 (c ∷ u)) in
    sym (other_value (c ∷ u) 13 (some_cons c u) digits)
