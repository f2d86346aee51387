-- Lines that are bad: by a first word that names nothing, by too many arguments. Assumes nothing.
use Prim.Native.Nat.{ℕ, suc, ◌≤◌, ◌<◌}
use mathlib.Core.Path.{◌≡◌, refl, sym, ap, ◌∙◌}
use mathlib.Core.Bool.{Bool, true, false}
use mathlib.Core.List.{List, [], ◌∷◌}
use native.Mathlib.Omega.{arith}
use lib.Dec.{eqb}
use lib.ListN.{length}
use borrow.Author.Tests.{eqb-true}
use Rattle.std.specs.Prelude.{if◌then◌else◌}
use Rattle.call_words.specs.Text.{bytes, same}
use Rattle.call_words.specs.Names.{named, named_slot, named_words, named_second}
use Rattle.call_words.specs.Shapes.{stands, fits, shape_of}
use Rattle.call_words.specs.Asked.{bad, asks_where, understood}
use Rattle.std.specs.Prelude.{Option, Some, None}
use Rattle.call_words.specs.declared.shapes.Argument.{Argument}
use Rattle.call_words.specs.declared.names.Name.{Name}
use Rattle.call_words.specs.declared.names.Name.TheVariants.{Lend, Word, Open, Push, SetAction, ClearAction, SetTimer, ClearTimer, PickNext, SimNetworkStack, Show, Words, TakeSecond, Pack}
use Rattle.call_line.specs.Held.{has_cr}

-- ---- the first word

other_length : (w t : List ℕ) → (length w ≡ length t → ⊥) → same w t ≡ false
other_length [] [] other = absurd (other refl)
other_length [] (b ∷ t) other = refl
other_length (a ∷ w) [] other = refl
other_length (a ∷ w) (b ∷ t) other = by (eqb a b) (other_length w t (λ e. other (ap suc e)))
  where
    by : (x : Bool) → same w t ≡ false → (if x then same w t else false) ≡ false
    by true h = h
    by false h = refl

has_cr_lem : (w t : List ℕ) → has_cr w ≡ true → has_cr t ≡ false → same w t ≡ false
has_cr_lem [] [] cr none = cc
has_cr_lem [] (b ∷ t) cr none = refl
has_cr_lem (a ∷ w) [] cr none = refl
has_cr_lem (a ∷ w) (b ∷ t) cr none = by (eqb a b) refl (eqb a 13) refl (has_cr_lem w t) cr none
  where
    by :
        (x : Bool) → eqb a b ≡ x → (y : Bool) → eqb a 13 ≡ y → (has_cr w ≡ true → has_cr t ≡ false → same w t ≡ false)
        → (if y then true else has_cr w) ≡ true → has_cr (b ∷ t) ≡ false → (if x then same w t else false) ≡ false
    by false e y f h c n = refl
    by true e true f h c n =
        let first : has_cr (b ∷ t) ≡ true =
        ap (λ (z : ℕ). has_cr (z ∷ t)) (sym (eqb-true a b e)) ∙ ap (λ (z : Bool). if z then true else has_cr t) f in
        cc
    by true e false f h c n =
        let first : has_cr (b ∷ t) ≡ has_cr t =
        ap (λ (z : ℕ). has_cr (z ∷ t)) (sym (eqb-true a b e)) ∙ ap (λ (z : Bool). if z then true else has_cr t) f in
        h c (sym first ∙ n)

-- names are of 17 letters at most, and have no CR
unlike_names : (w : List ℕ) → ((t : List ℕ) → length t ≤ 17 → has_cr t ≡ false → same w t ≡ false) → named w ≡ None
unfolding named named_slot named_words named_second
unlike_names w unlike =
    simp (
      unlike (bytes "push") (omega arith) refl,
      unlike (bytes "pick_next") (omega arith) refl,
      unlike (bytes "sim_network_stack") (omega arith) refl,
      unlike (bytes "show") (omega arith) refl,
      unlike (bytes "set_action") (omega arith) refl,
      unlike (bytes "clear_action") (omega arith) refl,
      unlike (bytes "set_timer") (omega arith) refl,
      unlike (bytes "clear_timer") (omega arith) refl,
      unlike (bytes "open") (omega arith) refl,
      unlike (bytes "lend") (omega arith) refl,
      unlike (bytes "word") (omega arith) refl,
      unlike (bytes "words") (omega arith) refl,
      unlike (bytes "pack") (omega arith) refl,
      unlike (bytes "lend_second") (omega arith) refl,
      unlike (bytes "word_second") (omega arith) refl,
      unlike (bytes "words_second") (omega arith) refl,
      unlike (bytes "take_second") (omega arith) refl,
    )

pub named_long : (w : List ℕ) → 17 < length w → named w ≡ None
named_long w long = unlike_names w (λ t short _. other_length w t (λ e. omega (arith, long, short, e)))

pub named_cr : (w : List ℕ) → has_cr w ≡ true → named w ≡ None
named_cr w cr = unlike_names w (λ t _ none. has_cr_lem w t cr none)

pub bad_name : (w : List ℕ) (a : List Argument) → named w ≡ None → understood w a ≡ bad
unfolding understood
bad_name w a e = ap (λ (n : Option Name). asks_where n a) e

-- ---- the arguments

other_count : (f : List Argument) (s : List ℕ) → (length f ≡ length s → ⊥) → fits f s ≡ false
other_count [] [] other = absurd (other refl)
other_count [] (b ∷ s) other = refl
other_count (a ∷ f) [] other = refl
other_count (a ∷ f) (b ∷ s) other = by (stands a.form b) (other_count f s (λ e. other (ap suc e)))
  where
    by : (x : Bool) → fits f s ≡ false → (if x then fits f s else false) ≡ false
    by true h = h
    by false h = refl

short_shape : (n : Name) → length (shape_of n) ≤ 10
short_shape (Lend b) = omega arith
short_shape (Word b) = omega arith
short_shape Open = omega arith
short_shape Push = omega arith
short_shape SetAction = omega arith
short_shape ClearAction = omega arith
short_shape SetTimer = omega arith
short_shape ClearTimer = omega arith
short_shape PickNext = omega arith
short_shape SimNetworkStack = omega arith
short_shape Show = omega arith
short_shape (Words b) = omega arith
short_shape TakeSecond = omega arith
short_shape Pack = omega arith

pub too_many : (w : List ℕ) (a : List Argument) → 10 < length a → understood w a ≡ bad
unfolding understood
too_many w a many = by (named w)
  where
    by : (n : Option Name) → asks_where n a ≡ bad
    by None = refl
    by (Some n) = simp (other_count a (shape_of n) (λ e. omega (arith, many, e, short_shape n)))
