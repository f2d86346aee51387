-- How a test is shown to decide a fact: by its answer, by a comparison, by another test. Assumes nothing.
use Prim.Native.Nat.{ℕ, ◌≤◌}
use mathlib.Core.Path.{◌≡◌, refl, sym, subst, ◌∙◌}
use mathlib.Core.Bool.{Bool, true, false, not}
use lib.Dec.{T, eqb, leb}
use borrow.Author.Tests.{eqb-true, eq-eqb, leb-true, le-leb, not-true, not-false}
use Rattle.layout.specs.Decides.{Decides}

-- a test that answers true, where the fact holds
pub holds : {P : Type 0} → P → Decides P true
holds p = record { sound = λ _. p; complete = λ _. refl }

pub false_true : {P : Type 0} → false ≡ true → P
false_true e = absurd (subst T (sym e) tt)

-- a test that answers false, where the fact does not hold
pub fails : {P : Type 0} → (P → ⊥) → Decides P false
fails n = record { sound = false_true; complete = λ p. absurd (n p) }

-- a test that answers with a comparison
pub by_eqb : {P : Type 0} (a b : ℕ) → (a ≡ b → P) → (P → a ≡ b) → Decides P (eqb a b)
by_eqb a b f g = record { sound = λ e. f (eqb-true a b e); complete = λ p. eq-eqb a b (g p) }

pub by_leb : {P : Type 0} (a b : ℕ) → (a ≤ b → P) → (P → a ≤ b) → Decides P (leb a b)
by_leb a b f g = record { sound = λ e. f (leb-true a b e); complete = λ p. le-leb a b (g p) }

-- a test that hands on another's answer
pub hands : {P Q : Type 0} {r : Bool} → Decides Q r → (Q → P) → (P → Q) → Decides P r
hands d f g = record { sound = λ e. f (d.sound e); complete = λ p. d.complete (g p) }

-- after `if !f(..) { return false; }`: in the branch the fact does not hold c.ifN.taken, past it it holds c.ifN.left
pub refused : {P : Type 0} {r : Bool} → Decides P r → not r ≡ true → P → ⊥
refused {r = r} d e p = false_true (sym (not-true r e) ∙ d.complete p)

pub passed : {P : Type 0} {r : Bool} → Decides P r → not r ≡ false → P
passed {r = r} d e = d.sound (not-false r e)

-- where the test answers false, the fact does not hold
pub denied : {P : Type 0} {r : Bool} → Decides P r → r ≡ false → P → ⊥
denied d e p = false_true (sym e ∙ d.complete p)
