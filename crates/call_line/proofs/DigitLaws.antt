-- A digit in an argument: what its test says. Assumes nothing.
use Prim.Native.Nat.{ℕ}
use mathlib.Core.Path.{◌≡◌, refl}
use mathlib.Core.Bool.{Bool, true, false}
use native.Mathlib.Omega.{arith}
use Rattle.std.specs.Prelude.{if◌then◌else◌}
use Rattle.call_line.specs.Numerals.{is_digit}
use Rattle.call_line.specs.Held.{in_arguments_place, digit_of}
use Rattle.call_line.specs.declared.line.Line.{Line as Kept}
use Rattle.call_line.specs.declared.line.Place.{Place}
use Rattle.call_line.specs.declared.line.Place.TheVariants.{FirstWord, Arguments, Comment, FirstWordCr, ArgumentsCr}

both : (x y : Bool) → (if x then y else false) ≡ true → (x ≡ true) × (y ≡ true)
both true y e = (refl, e)
both false y e = absurd (let z : ◌≡◌ {A = ℕ} 0 1 = cc in omega arith)

pub digit_there : (k : Kept) (b : ℕ) → digit_of k b ≡ true → (k.place ≡ Arguments) × (is_digit b ≡ true)
digit_there k b e =
    let two : (in_arguments_place k.place ≡ true) × (is_digit b ≡ true) = both (in_arguments_place k.place) (is_digit b) e in
    (by k.place two.0, two.1)
  where
    by : (p : Place) → in_arguments_place p ≡ true → p ≡ Arguments
    by FirstWord o = cc
    by Arguments o = refl
    by Comment o = cc
    by FirstWordCr o = cc
    by ArgumentsCr o = cc
