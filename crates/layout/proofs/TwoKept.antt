-- Words stay accepted where chains j and k are given anew (TwoChains), each fit and in order, with the same records together. Assumes nothing.
use Prim.Native.Nat.{ℕ, zero, suc, ◌+◌, ◌≤◌, ◌<◌, ◌/◌}
use mathlib.Core.Path.{◌≡◌, sym, ap₂, subst, ◌∙◌}
use mathlib.Core.List.{List}
use native.Mathlib.Omega.{arith}
use lib.ListN.{length, get_or}
use Rattle.queue_event.specs.Words.{next_of}
use Rattle.queue_event.specs.Chain.{rec_at, Node, nodes, Is, Chain as LinkedFrom}
use Rattle.layout.specs.Records.{chain_count, head_of, count_of, machines_for, RecordShape, Fit, Ordered, ChainOk, counts_to}
use Rattle.layout.specs.Accepted.{Good}
use Rattle.layout.specs.Changes.{put_chain, put_two, TwoChains}
use Rattle.layout.proofs.ChainWords.{length_chain, count_other, sum_above, count_le, Beside, beside_chain, beside_copied, Copied, machines_copied}

-- a chain of number k that holds l is in order, where l is fit and in order
pub is_ok :
    (h rs : List ℕ) (k n a : ℕ) (l : List Node) → count_of h k ≡ n → head_of h k ≡ a → Is k rs n a l → Fit k (machines_for h k) l → Ordered k 0 0 l
    → count_of h k ≤ length rs / 4 → ChainOk h rs k
is_ok h rs k n a l en ea i f o c =
    let e : nodes rs (count_of h k) (head_of h k) ≡ l = ap₂ (nodes rs) en ea ∙ i.held in
    record {
      count = c;
      links = subst (λ x. LinkedFrom rs k x (head_of h k)) (sym en) (subst (λ x. LinkedFrom rs k n x) (sym ea) i.chain);
      fit = subst (Fit k (machines_for h k)) (sym e) f;
      order = subst (Ordered k 0 0) (sym e) o;
    }

-- free records are fit by their chain number alone
pub free_linked : (rs : List ℕ) (c n a : ℕ) → LinkedFrom rs 0 n a → Fit 0 c (nodes rs n a)
unfolding LinkedFrom Fit nodes rec_at
free_linked rs c zero a l = tt
free_linked rs c (suc n) a l =
    let s : RecordShape 0 _ _ = record { chain = l.1; event = λ p. absurd (omega arith); stamp = λ p q. absurd (omega arith); aggregate = λ p. absurd (omega arith) } in
    (record { shape = s; event = λ p. absurd (omega arith); stamp = λ p q. absurd (omega arith); aggregate = λ p. absurd (omega arith) }, free_linked rs c n (next_of rs a) l.2)

pub free_fit : (rs : List ℕ) (c n a : ℕ) (l : List Node) → Is 0 rs n a l → Fit 0 c l
free_fit rs c n a l i = subst (Fit 0 c) i.held (free_linked rs c n a i.chain)

module _ (h rs rs' : List ℕ) (j a n k b m : ℕ) (y x : List Node) (t : TwoChains h rs rs' j a n k b m y x) (g : Good h rs)
    (sum : n + m ≡ count_of h j + count_of h k) (fit-y : Fit j (machines_for h j) y) (order-y : Ordered j 0 0 y)
    (fit-x : Fit k (machines_for h k) x) (order-x : Ordered k 0 0 x) where
  pub two_beside : Beside h (put_two h j a n k b m)
  two_beside i o = beside_chain (put_chain h j a n) k b m t.other_small i o ∙ beside_chain h j a n t.one_small i o

  two_copied : (i : ℕ) → Copied i → get_or (put_two h j a n k b m) i 0 ≡ get_or h i 0
  two_copied = beside_copied h (put_two h j a n k b m) two_beside

  two_sum : counts_to (put_two h j a n k b m) chain_count ≡ counts_to h chain_count
  two_sum =
      omega (
        arith,
        sum,
        sum_above (put_chain h j a n) k b m (length_chain h j a n ∙ t.wide) t.other_small chain_count t.other_small,
        sum_above h j a n t.wide t.one_small chain_count t.one_small,
        count_other h j a n k t.differ,
      )

  counted : (i : ℕ) → i < chain_count → count_of (put_two h j a n k b m) i ≤ length rs' / 4
  counted i l = rw t.len (omega (arith, count_le (put_two h j a n k b m) i chain_count l, two_sum, g.counts))

  machined : (i : ℕ) → i < chain_count → (l : List Node) → Fit i (machines_for h i) l → Fit i (machines_for (put_two h j a n k b m) i) l
  machined i s l = subst (λ c. Fit i c l) (sym (machines_copied h (put_two h j a n k b m) two_copied i s))
