-- The free records of accepted words form one chain, each in it once. Assumes nothing.
use Prim.Native.Nat.{ℕ, zero, suc, ◌<◌}
use mathlib.Core.Path.{◌≡◌, refl, sym, ap, subst}
use mathlib.Core.List.{List, [], ◌∷◌}
use mathlib.Core.Logic.{inl, inr}
use native.Mathlib.Omega.{arith}
use lib.ListN.{length, get_or, take, drop}
use Rattle.layout.specs.Records.{count_of, head_of}
use Rattle.layout.specs.Accepted.{Accepted}
use Rattle.layout.specs.Layout.{chains, state_from, state_of}
use Rattle.layout.specs.Places.{Distinct, Has}
use Rattle.layout.proofs.Places.{chain_distinct}
use Rattle.simulator.specs.Outcome.{FreeRecords}

has_at : (l : List ℕ) (j : ℕ) → j < length l → Has (get_or l j 0) l
unfolding Has
has_at [] j p = absurd (omega arith)
has_at (x ∷ l) zero p = inl refl
has_at (x ∷ l) (suc j) p = inr (has_at l j (omega arith))

distinct_at : (l : List ℕ) → Distinct l → (i j : ℕ) → i < length l → j < length l → get_or l i 0 ≡ get_or l j 0 → i ≡ j
unfolding Distinct
distinct_at [] d i j p q e = absurd (omega arith)
distinct_at (x ∷ l) d zero zero p q e = refl
distinct_at (x ∷ l) d zero (suc j) p q e = absurd (d.0 (subst (λ y. Has y l) (sym e) (has_at l j (omega arith))))
distinct_at (x ∷ l) d (suc i) zero p q e = absurd (d.0 (subst (λ y. Has y l) e (has_at l i (omega arith))))
distinct_at (x ∷ l) d (suc i) (suc j) p q e = ap suc (distinct_at l d.1 i j (omega arith) (omega arith) e)

free_distinct : (w : List ℕ) → Accepted w → Distinct (state_of w).free
unfolding state_from chains
free_distinct w a = chain_distinct (drop 256 w) 0 (count_of (take 256 w) 0) (head_of (take 256 w) 0) (a.good.chains 0 (omega arith)).links

pub free_records : (w : List ℕ) → Accepted w → FreeRecords w
free_records w a = record { chain = (a.good.chains 0 (omega arith)).links; once = distinct_at (state_of w).free (free_distinct w a) }
