-- The letters of a first word that are kept, with one byte more. Assumes nothing.
use Prim.Native.Nat.{ℕ, suc, ◌+◌, ◌≤◌, ◌<◌}
use mathlib.Core.Path.{◌≡◌, refl, sym, ap, ◌∙◌}
use mathlib.Core.Bool.{true, false}
use mathlib.Core.Logic.{inl, inr}
use mathlib.Core.List.{List, [], ◌∷◌, ◌++◌}
use native.Mathlib.Omega.{arith}
use lib.ListN.{length, take, set, length-append}
use lib.Seq.{length-take-le, take-suc-set}
use Rattle.call_line.specs.Held.{has_cr, Spelt}
use Rattle.call_line.proofs.WordLaws.{cr_stays}

module _ (w name : List ℕ) (letters : ℕ) (len : length name ≡ 24) where
  count : letters ≤ 24 → take letters name ≡ w → length w ≡ letters
  count low is =
      let inside : letters ≤ length name = omega arith in
      sym (ap length is) ∙ length-take-le letters name inside

  -- there is a letter where there is a word
  pub spelt_none : Spelt w name letters → letters ≡ 0 → w ≡ []
  spelt_none (inl (low, is)) e = sym is ∙ ap (λ (n : ℕ). take n name) e
  spelt_none (inr (many, _)) e = absurd (omega (arith, many, e))

  pub spelt_some : Spelt w name letters → (letters ≡ 0 → ⊥) → w ≡ [] → ⊥
  spelt_some (inl (low, is)) some e = some (sym (count low is) ∙ ap length e)
  spelt_some (inr (many, inl long)) some e = omega (arith, long, ap length e)
  spelt_some (inr (many, inr cr)) some e =
      let z : false ≡ true = sym (ap has_cr e) ∙ cr in
      let n : ◌≡◌ {A = ℕ} 0 1 = cc in
      omega arith

  -- one byte more, where it is kept
  pub spelt_kept : (b : ℕ) → letters < 24 → Spelt w name letters → Spelt (w ++ (b ∷ [])) (set name letters b) (letters + 1)
  spelt_kept b room (inl (low, is)) =
      let next : letters + 1 ≡ suc letters = omega arith in
      inl (
        omega arith,
        ap (λ (n : ℕ). take n (set name letters b)) next
            ∙ take-suc-set name letters b (omega arith)
            ∙ ap (λ (v : List ℕ). v ++ (b ∷ [])) is,
      )
  spelt_kept b room (inr (many, _)) = absurd (omega (arith, many, room))

  -- and where it is not
  pub spelt_dropped : (b : ℕ) → 24 ≤ letters → Spelt w name letters → Spelt (w ++ (b ∷ [])) name 25
  spelt_dropped b full (inl (low, is)) = inr (refl, inl (omega (arith, count low is, length-append w (b ∷ []))))
  spelt_dropped b full (inr (many, inl long)) = inr (refl, inl (omega (arith, long, length-append w (b ∷ []))))
  spelt_dropped b full (inr (many, inr cr)) = inr (refl, inr (cr_stays w b cr))
