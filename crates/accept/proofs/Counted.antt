-- The records of the chains, added up. Assumes nothing.
use Prim.Native.Nat.{ℕ, zero, suc, ◌+◌, ◌*◌, ◌≤◌, ◌<◌}
use mathlib.Core.Path.{◌≡◌}
use mathlib.Core.List.{List}
use native.Mathlib.Omega.{arith}
use Rattle.std.specs.List.{fold, sum_by, range_with_len}
use Rattle.layout.specs.Records.{chain_count, count_of, counts_to}
use Rattle.layout.proofs.Sums.{counts_to_zero, counts_to_more}

module _ (h : List ℕ) (few : (k : ℕ) → k < chain_count → count_of h k ≤ 65535) where
  counts_from :
      (k n sum : ℕ) → k + n ≤ chain_count → (sum ≡ counts_to h k) × (sum ≤ 65535 * k)
      → (fold (λ s x. s + count_of h x) sum (range_with_len k n) ≡ counts_to h (k + n)) × (fold (λ s x. s + count_of h x) sum (range_with_len k n) ≤ 65535 * (k + n))
  counts_from k zero sum l p = let same : k + 0 ≡ k = omega arith in rw same p
  counts_from k (suc n) sum l p =
      let same : k + suc n ≡ k + 1 + n = omega arith in
      rw same (counts_from (k + 1) n (sum + count_of h k) (omega arith) (omega (arith, p.0, counts_to_more h k), omega (arith, p.1, few k (omega arith))))

  pub counts_all : (sum_by (count_of h) (range_with_len 0 12) ≡ counts_to h 12) × (sum_by (count_of h) (range_with_len 0 12) ≤ 786420)
  counts_all = counts_from 0 12 0 (omega arith) (omega (arith, counts_to_zero h), omega arith)
