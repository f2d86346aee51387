-- A test that answers a value where a fact holds decides it. Assumes nothing.
use mathlib.Core.Path.{◌≡◌, refl, sym, ap, subst, ◌∙◌}
use mathlib.Core.Bool.{Bool, true, false}
use Rattle.std.specs.Prelude.{Option, is_some}
use Rattle.std.specs.Bool.{then_some}
use Rattle.layout.specs.Decides.{Decides}

is_some_if : {A : Type 0} (b : Bool) (x : A) → is_some (then_some b x) ≡ b
is_some_if true x = refl
is_some_if false x = refl

pub some_if : {A P : Type 0} (b : Bool) (x : A) {o : Option A} → o ≡ then_some b x → Decides P b → Decides P (is_some o)
some_if {P = P} b x e d = subst (λ (r : Bool). Decides P r) (sym (ap is_some e ∙ is_some_if b x)) d
