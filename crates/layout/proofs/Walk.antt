-- A chain as the test walks it, link by link, and as `ChainOk` states it: each from the other. Assumes nothing.
use Prim.Native.Nat.{ℕ, zero, suc, ◌+◌, ◌-◌, ◌≤◌, ◌<◌, ◌/◌}
use mathlib.Core.Path.{◌≡◌, sym, subst}
use mathlib.Core.List.{List}
use mathlib.Core.Bool.{Bool, true, false}
use native.Mathlib.Omega.{arith}
use lib.Dec.{eqb}
use lib.ListN.{length}
use Rattle.queue_event.specs.Words.{next_of, moment_of, length_of, tag_of}
use Rattle.queue_event.specs.Chain.{rec_at, nodes, Chain as Linked}
use Rattle.queue_event.specs.Tag.{kind_field}
use Rattle.queue_event.proofs.Laws.{pred_is}
use Rattle.layout.specs.Decides.{Decides}
use Rattle.layout.specs.Records.{RecordOk, Follows, Fit, Ordered, LinkOk, Chain, ChainOk, head_of, count_of, machines_for}
use Rattle.layout.proofs.Deciding.{fails, by_eqb, denied}

module _ (rs : List ℕ) (k c : ℕ) where
  chain_linked : (n m r at : ℕ) → Chain rs k c n m r at → Linked rs k n at
  unfolding Chain Linked
  chain_linked zero m r at x = x
  chain_linked (suc n) m r at x = (x.0.within, x.0.holds.shape.chain, chain_linked n (moment_of rs at) (kind_field (tag_of rs at)) (next_of rs at) x.1)

  chain_fit : (n m r at : ℕ) → Chain rs k c n m r at → Fit k c (nodes rs n at)
  unfolding Chain Fit nodes rec_at
  chain_fit zero m r at x = tt
  chain_fit (suc n) m r at x = (x.0.holds, chain_fit n (moment_of rs at) (kind_field (tag_of rs at)) (next_of rs at) x.1)

  chain_ordered : (n m r at : ℕ) → Chain rs k c n m r at → Ordered k m r (nodes rs n at)
  unfolding Chain Ordered nodes rec_at
  chain_ordered zero m r at x = tt
  chain_ordered (suc n) m r at x = (x.0.order, chain_ordered n (moment_of rs at) (kind_field (tag_of rs at)) (next_of rs at) x.1)

  chain_of_lem : (n m r at : ℕ) → Linked rs k n at → Fit k c (nodes rs n at) → Ordered k m r (nodes rs n at) → Chain rs k c n m r at
  unfolding Chain Linked Fit Ordered nodes rec_at
  chain_of_lem zero m r at l f o = l
  chain_of_lem (suc n) m r at l f o =
      (record { within = l.0; holds = f.0; order = o.0 }, chain_of_lem n (moment_of rs at) (kind_field (tag_of rs at)) (next_of rs at) l.2 f.1 o.1)

  -- a chain of n > 0 records taken apart, and put together
  module _ (n m r at : ℕ) (some : 0 < n) where
    pub chain_link : Chain rs k c n m r at → LinkOk rs k c m r at
    unfolding Chain
    chain_link h = (subst (λ (x : ℕ). Chain rs k c x m r at) (pred_is n some) h).0

    pub chain_rest : Chain rs k c n m r at → Chain rs k c (n - 1) (moment_of rs at) (kind_field (tag_of rs at)) (next_of rs at)
    unfolding Chain
    chain_rest h = (subst (λ (x : ℕ). Chain rs k c x m r at) (pred_is n some) h).1

    pub chain_join : LinkOk rs k c m r at → Chain rs k c (n - 1) (moment_of rs at) (kind_field (tag_of rs at)) (next_of rs at) → Chain rs k c n m r at
    unfolding Chain
    chain_join l h = subst (λ (x : ℕ). Chain rs k c x m r at) (sym (pred_is n some)) (l, h)

  -- a chain of none
  pub chain_end : (n m r at : ℕ) → n ≡ 0 → Chain rs k c n m r at → at ≡ 0
  unfolding Chain
  chain_end n m r at e h = subst (λ (x : ℕ). Chain rs k c x m r at) e h

  pub chain_none : (n m r at : ℕ) → n ≡ 0 → at ≡ 0 → Chain rs k c n m r at
  unfolding Chain
  chain_none n m r at e h = subst (λ (x : ℕ). Chain rs k c x m r at) (sym e) h

module _ (h rs : List ℕ) (k : ℕ) where
  pub chain_ok : count_of h k ≤ length rs / 4 → Chain rs k (machines_for h k) (count_of h k) 0 0 (head_of h k) → ChainOk h rs k
  chain_ok l x =
      record {
        count = l;
        links = chain_linked rs k (machines_for h k) (count_of h k) 0 0 (head_of h k) x;
        fit = chain_fit rs k (machines_for h k) (count_of h k) 0 0 (head_of h k) x;
        order = chain_ordered rs k (machines_for h k) (count_of h k) 0 0 (head_of h k) x;
      }

  pub ok_chain : ChainOk h rs k → Chain rs k (machines_for h k) (count_of h k) 0 0 (head_of h k)
  ok_chain ok = chain_of_lem rs k (machines_for h k) (count_of h k) 0 0 (head_of h k) ok.links ok.fit ok.order

-- ---- the walk: a fact, and what is left of it to be shown

pub record Rest (P Q : Type 0) : Type 0 where
  pub on : P → Q
  pub back : Q → P

module _ {P : Type 0} (rs : List ℕ) (k c n i m r at : ℕ) (walk : Rest P (Chain rs k c (n - i) m r at)) (some : i < n) where
  no_link : (LinkOk rs k c m r at → ⊥) → Decides P false
  no_link bad = fails (λ p. bad (chain_link rs k c (n - i) m r at (omega arith) (walk.on p)))

  -- there is no record of this number
  pub walk_ended : at ≡ 0 → Decides P false
  walk_ended e = no_link (λ l. omega (arith, l.within.one))

  pub walk_outside : length rs / 4 < at → Decides P false
  walk_outside o = no_link (λ l. omega (arith, l.within.fits))

  -- the words that were read: the record's own test, and its place after the one before it
  module _ (m' l' t' : ℕ) (a b : Bool) (em : m' ≡ moment_of rs at) (el : l' ≡ length_of rs at) (et : t' ≡ tag_of rs at) (fine : Decides (RecordOk k c m' l' t') a) where
    pub walk_unfit : a ≡ false → Decides P false
    walk_unfit bad = no_link (λ l. denied fine bad (rw (em, el, et) l.holds))

    pub walk_disorder : (rank : ℕ) → rank ≡ kind_field t' → Decides (Follows k m r m' rank) b → b ≡ false → Decides P false
    walk_disorder rank er after bad = no_link (λ l. denied after bad (rw er (rw (em, et) l.order)))

    -- one turn
    pub walk_turn :
        a ≡ true → (rank : ℕ) → rank ≡ kind_field t' → Decides (Follows k m r m' rank) b → b ≡ true → (at ≡ 0 → ⊥) → at ≤ length rs / 4
        → (next : ℕ) → next ≡ next_of rs at → Rest P (Chain rs k c (n - (i + 1)) m' rank next)
    walk_turn good rank er after ordered one inside next en =
        let left : n - (i + 1) ≡ n - i - 1 = omega arith in
        rw (er, left)
        (rw (em, et, en)
        (record {
          on = λ p. chain_rest rs k c (n - i) m r at (omega arith) (walk.on p);
          back = λ q. walk.back (chain_join rs k c (n - i) m r at (omega arith) (record { within = record { one = omega arith; fits = omega arith }; holds = rw (em, el, et) at (fine.sound good); order = rw (em, et) at (rw er at (after.sound ordered)) }) q);
        }))

-- the end
pub walk_ends : {P : Type 0} (rs : List ℕ) (k c n m r at : ℕ) → Rest P (Chain rs k c n m r at) → n ≡ 0 → Decides P (eqb at 0)
walk_ends rs k c n m r at walk e = by_eqb at 0 (λ z. walk.back (chain_none rs k c n m r at e z)) (λ p. chain_end rs k c n m r at e (walk.on p))
