-- The order of delays. Assumes nothing.
use mathlib.Core.Path.{◌≡◌, refl, sym, ap, ap₂, ◌∙◌}
use mathlib.Core.Bool.{Bool, true, false}
use Rattle.std.specs.Ordering.{is_le, nat_cmp}
use Rattle.moment.specs.declared.Length.{Length}
use Rattle.moment.proofs.Order.{le_is}
use Rattle.std.specs.Prelude.{Option, Some, None}
use Rattle.rules.specs.Basics.{after, absent, ◌≤ᵈ◌, Delay as RulesDelay}
use Rattle.queue_peek.specs.Decoded.{delay_of}

before_absent : (x : RulesDelay) → true ≡ (x ≤ᵈ absent)
before_absent (after n) = refl
before_absent absent = refl

module _ (a b : Option Length) where
  pub not_later_none : b ≡ None → true ≡ (delay_of a ≤ᵈ delay_of b)
  unfolding delay_of
  not_later_none e = before_absent (delay_of a) ∙ ap (λ (x : Option Length). delay_of a ≤ᵈ delay_of x) (sym e)

  pub not_later_never : (y : Length) → b ≡ Some y → a ≡ None → false ≡ (delay_of a ≤ᵈ delay_of b)
  unfolding delay_of
  not_later_never y eb ea = ap₂ (λ (p q : Option Length). delay_of p ≤ᵈ delay_of q) (sym ea) (sym eb)

  pub not_later_both : (x y : Length) (r : Bool) → b ≡ Some y → a ≡ Some x → r ≡ is_le (nat_cmp x.0 y.0) → r ≡ (delay_of a ≤ᵈ delay_of b)
  unfolding delay_of
  not_later_both x y r eb ea er = er ∙ le_is x.0 y.0 ∙ ap₂ (λ (p q : Option Length). delay_of p ≤ᵈ delay_of q) (sym ea) (sym eb)
