-- All packed records read back: each chain, and the free one. Assumes nothing.
use Prim.Native.Nat.{ℕ, zero, suc, ◌+◌, ◌-◌, ◌*◌, ◌≤◌, ◌<◌}
use mathlib.Core.Path.{◌≡◌, refl, ap, subst}
use mathlib.Core.List.{List, ◌++◌}
use native.Mathlib.Omega.{arith}
use lib.ListN.{length, get_or, length-append, length-replicate, replicate}
use Rattle.queue_event.specs.Chain.{Rec, nodes, Chain as Linked}
use Rattle.queue_event.specs.Tag.{mark_of}
use Rattle.layout.specs.Records.{chain_count}
use Rattle.layout.specs.Packed.{chain_words, used_to, used_words, used_in, free_in, packed_records, packed_chain, packed_start, packed_head, packed_count}
use Rattle.layout.proofs.PackedChains.{Stand, stand_left, stand_right, length_chain, length_used, used_next, used_least, used_stand, placed, read_back, linked_back, Marked}

stand_all : (rs : List ℕ) → Stand rs 0 rs
stand_all rs i l = ap (λ j. get_or rs j 0) (none i)
  where
    none : (i : ℕ) → 0 + i ≡ i
    none i = omega arith

at_record : (u : ℕ) → 4 * u ≡ 4 * suc u - 4
at_record u = omega arith

same_marked : (k n : ℕ) (x : Rec) → mark_of x.tag ≡ k → Marked k (replicate n x)
same_marked k zero x e = tt
same_marked k (suc n) x e = (e, same_marked k n x e)

pub length_free : (c : ℕ → List Rec) (r : ℕ) → length (free_in c r) ≡ r - used_in c
length_free c r = length-replicate (r - used_in c) _

module _ (c : ℕ → List Rec) (r : ℕ) (fits : used_in c ≤ r) where
  split : Stand (packed_records c r) 0 (used_words c (chain_count - 1) ++ chain_words (suc (used_in c)) (free_in c r))
  unfolding packed_records
  split = stand_all (packed_records c r)

  pub length_packed : length (packed_records c r) ≡ 4 * r
  unfolding packed_records
  length_packed =
      omega (
        arith,
        length-append (used_words c (chain_count - 1)) (chain_words (suc (used_in c)) (free_in c r)),
        length_used c (chain_count - 1),
        length_chain (suc (used_in c)) (free_in c r),
        length_free c r,
        fits,
      )

  -- each chain, the free one too: its words stand from its first record on
  pub chain_stands : (k : ℕ) → k < chain_count → Stand (packed_records c r) (4 * packed_start c k - 4) (chain_words (packed_start c k) (packed_chain c r k))
  chain_stands zero l =
      subst (λ b. Stand (packed_records c r) b (chain_words (suc (used_in c)) (free_in c r))) (omega (arith, length_used c (chain_count - 1)))
      (stand_right (packed_records c r) 0 (used_words c (chain_count - 1)) (chain_words (suc (used_in c)) (free_in c r)) split)
  chain_stands (suc k) l =
      subst (λ b. Stand (packed_records c r) b (chain_words (suc (used_to c k)) (c (suc k)))) (at_record (used_to c k))
      (
      used_stand (packed_records c r) c (chain_count - 1) k (omega arith)
      (stand_left (packed_records c r) 0 (used_words c (chain_count - 1)) (chain_words (suc (used_in c)) (free_in c r)) split)
      )

  start_one : (k : ℕ) → 1 ≤ packed_start c k
  start_one zero = omega arith
  start_one (suc k) = omega arith

  -- it ends within the r records
  pub chain_ends : (k : ℕ) → k < chain_count → 4 * packed_start c k - 4 + 4 * packed_count c r k ≤ 4 * r
  chain_ends zero l = omega (arith, length_free c r, fits)
  chain_ends (suc k) l = omega (arith, fits, used_next c k, used_least c (suc k) (chain_count - 1) (omega arith))

  -- chain k holds what it held, in the records after those of the chains before it
  pub packed_held : (k : ℕ) → k < chain_count → nodes (packed_records c r) (packed_count c r k) (packed_head c r k) ≡ placed (packed_start c k) (packed_chain c r k)
  packed_held k l = read_back (packed_records c r) (packed_start c k) (packed_chain c r k) (start_one k) (chain_stands k l)

  pub packed_linked : (k : ℕ) → k < chain_count → Marked k (packed_chain c r k) → Linked (packed_records c r) k (packed_count c r k) (packed_head c r k)
  packed_linked k l m =
      linked_back (packed_records c r) k (packed_start c k) (packed_chain c r k) (start_one k) (omega (arith, length_packed, chain_ends k l)) m (chain_stands k l)

  -- the free chain's records have its mark
  pub free_marked : Marked 0 (packed_chain c r 0)
  free_marked = same_marked 0 (r - used_in c) _ refl
