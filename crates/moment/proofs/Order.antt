-- The order of moments and lengths, which is that of their numbers. Assumes nothing.
use Rattle.std.proofs.Common.{ℕ, ◌≡◌, not, ltb, leb, max}
use Rattle.std.proofs.lemmas.Grind.{common_steps}
use Rattle.std.specs.Ordering.{is_lt, is_le, is_ge, nat_cmp, ord_max}
use Rattle.moment.specs.declared.Moment.{Moment}
use native.Mathlib.Omega.{arith}

pub lt_is : (a b : ℕ) → is_lt (nat_cmp a b) ≡ ltb a b
lt_is a b = grind (arith, common_steps)

pub le_is : (a b : ℕ) → is_le (nat_cmp a b) ≡ leb a b
le_is a b = grind (arith, common_steps)

pub max_is : (r a b : Moment) → r ≡ ord_max (λ (x y : Moment). nat_cmp x.0 y.0) a b → r.0 ≡ max a.0 b.0
max_is r a b e = grind (arith, common_steps)

pub ge_is : (a b : ℕ) → is_ge (nat_cmp a b) ≡ not (ltb a b)
ge_is a b = grind (arith, common_steps)
