-- The order of pairs of numbers, as the rules say it of moment and rank. Assumes nothing.
use Prim.Native.Nat.{ℕ}
use mathlib.Core.Path.{◌≡◌}
use mathlib.Core.Bool.{not}
use native.Mathlib.Omega.{arith}
use Rattle.std.specs.Prelude.{Some}
use Rattle.std.specs.Ordering.{nat_cmp, partial_ordering_then, partial_lt, partial_le}
use Rattle.std.proofs.lemmas.Grind.{common_steps}
use Rattle.rules.specs.Basics.{before}

pub pair_lt : (a x b y : ℕ) → partial_lt {X = ℕ × ℕ} (λ p q. partial_ordering_then (Some (nat_cmp p.0 q.0)) (Some (nat_cmp p.1 q.1))) (a, x) (b, y) ≡ before a x b y
pair_lt a x b y = grind (arith, common_steps)

pub pair_le : (a x b y : ℕ) → partial_le {X = ℕ × ℕ} (λ p q. partial_ordering_then (Some (nat_cmp p.0 q.0)) (Some (nat_cmp p.1 q.1))) (a, x) (b, y) ≡ not (before b y a x)
pair_le a x b y = grind (arith, common_steps)
