-- The arguments that have ended, with one more. Assumes nothing.
use Prim.Native.Nat.{ℕ, suc, ◌+◌, ◌≤◌, ◌<◌}
use mathlib.Core.Path.{◌≡◌, refl, sym, ap, ◌∙◌}
use mathlib.Core.Logic.{inl, inr}
use mathlib.Core.List.{List, [], ◌∷◌, ◌++◌, map}
use native.Mathlib.Omega.{arith}
use lib.ListN.{length, take, set, length-append, length-map}
use lib.Seq.{length-take-le, take-suc-set}
use Rattle.call_line.specs.Numerals.{form_of, value_of, argument_of}
use Rattle.call_line.specs.Held.{Ended}
use Rattle.call_line.proofs.WordLaws.{map_snoc}
use Rattle.call_words.specs.declared.shapes.Argument.{Argument}
use Rattle.call_words.specs.declared.shapes.Form.{Form}

-- one argument more
stored :
    (l : List (List ℕ)) (w : List ℕ) (kept : List Argument) (n : ℕ) (v : Argument) → n < length kept → take n kept ≡ map argument_of l → v ≡ argument_of w
    → take (n + 1) (set kept n v) ≡ map argument_of (l ++ (w ∷ []))
stored l w kept n v inside is e =
    let next : n + 1 ≡ suc n = omega arith in
    ap (λ (i : ℕ). take i (set kept n v)) next
    ∙ take-suc-set kept n v inside
    ∙ ap (λ (t : List Argument). t ++ (v ∷ [])) is
    ∙ ap (λ (x : Argument). map argument_of l ++ (x ∷ [])) e
    ∙ sym (map_snoc l w)

module _ (l : List (List ℕ)) (w : List ℕ) (kept : List Argument) (n : ℕ) (many : length kept ≡ 12) where
  pub ended_kept :
      (form : Form) (number : ℕ) → n < 12 → form ≡ form_of w → number ≡ value_of w → Ended l kept n
      → Ended (l ++ (w ∷ [])) (set kept n (record { form = form; value = number })) (n + 1)
  ended_kept form number room f v (inl (low, is)) =
      let same : ◌≡◌ {A = Argument} (record { form = form; value = number }) (argument_of w) =
      ap (λ (x : Form). record { form = x; value = number }) f ∙ ap (λ (x : ℕ). record { form = form_of w; value = x }) v in
      inl (omega arith, stored l w kept n (record { form = form; value = number }) (omega arith) is same)
  ended_kept form number room f v (inr (more, _)) = absurd (omega (arith, more, room))

  pub ended_dropped : 12 ≤ n → Ended l kept n → Ended (l ++ (w ∷ [])) kept 13
  ended_dropped full (inl (low, is)) =
      let inside : n ≤ length kept = omega arith in
      let count : n ≡ length l = sym (length-take-le n kept inside) ∙ ap length is ∙ length-map l argument_of in
      inr (refl, omega (arith, count, length-append l (w ∷ [])))
  ended_dropped full (inr (more, many)) = inr (refl, omega (arith, many, length-append l (w ∷ [])))
