-- The names of lines, looked up in a table of texts and names. Assumes nothing.
use Prim.Native.Nat.{ℕ, zero, suc, ◌+◌, ◌<◌, ◌≤◌}
use native.Mathlib.Omega.{arith}
use mathlib.Core.Path.{◌≡◌, refl, sym, ap, ◌∙◌}
use mathlib.Core.Bool.{Bool, true, false}
use mathlib.Core.List.{List, [], ◌∷◌}
use lib.ListN.{length, get_or, drop}
use denote.Ref.{Bor}
use Rattle.std.specs.Prelude.{if◌then◌else◌, Option, Some, None}
use Rattle.std.specs.Str.{bytes_eq}
use Rattle.call_words.specs.Text.{same}
use Rattle.call_words.specs.declared.names.Name.{Name}
use Rattle.call_words.proofs.PairLaws.{same_text}

-- the name of the first of these rows whose text is w
abbrev pub looked_up : List ℕ → List (Bor (List ℕ) × Name) → Option Name
looked_up w [] = None
looked_up w (x ∷ l) = if same w x.0.now then Some x.1 else looked_up w l

drop_next : {A : Type 0} (l : List A) (i : ℕ) (d : A) → i < length l → drop i l ≡ get_or l i d ∷ drop (suc i) l
drop_next [] i d p = absurd (omega arith)
drop_next (x ∷ l) zero d p = refl
drop_next (x ∷ l) (suc i) d p = drop_next l i d (omega arith)

drop_all : {A : Type 0} (l : List A) (i : ℕ) → length l ≤ i → drop i l ≡ []
drop_all [] zero p = refl
drop_all [] (suc i) p = refl
drop_all (x ∷ l) zero p = absurd (omega arith)
drop_all (x ∷ l) (suc i) p = drop_all l i (omega arith)

-- the walk along the rows: those from i on are left
module _ (w : List ℕ) (goal : Option Name) (l : List (Bor (List ℕ) × Name)) (i : ℕ) (z : looked_up w (drop i l) ≡ goal) where
  module _ (d : Bor (List ℕ) × Name) (b : Bool) (p : i < length l) (eb : b ≡ bytes_eq w (get_or l i d).0.now) where
    step : (if b then Some (get_or l i d).1 else looked_up w (drop (suc i) l)) ≡ goal
    step = ap (λ c. if c then Some (get_or l i d).1 else looked_up w (drop (suc i) l)) (same_text w (get_or l i d).0.now b eb) ∙ sym (ap (looked_up w) (drop_next l i d p)) ∙ z

    pub row_found : b ≡ true → Some (get_or l i d).1 ≡ goal
    row_found q = rw q at step

    pub row_passed : b ≡ false → looked_up w (drop (i + 1) l) ≡ goal
    row_passed q = let next : i + 1 ≡ suc i = omega arith in ap (λ n. looked_up w (drop n l)) next ∙ (rw q at step)

  pub none_found : length l ≤ i → None ≡ goal
  none_found p = sym (ap (looked_up w) (drop_all l i p)) ∙ z
