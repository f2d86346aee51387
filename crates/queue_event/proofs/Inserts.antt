-- Laws of the order within a chain, and of insertion. Assumes nothing.
use Prim.Native.Nat.{ℕ, ◌≤◌, ◌<◌}
use native.Mathlib.Omega.{arith}
use mathlib.Core.Path.{◌≡◌, refl, sym, ap, ◌∙◌}
use mathlib.Core.Bool.{Bool, true, false, not, ◌&&◌, ◌||◌}
use mathlib.Core.List.{List, [], ◌∷◌}
use lib.Dec.{leb, ltb, eqb}
use borrow.Author.Tests.{le-leb, lt-leb, le-ltb, eq-eqb, ne_eqb, ltb-true, ltb-false, eqb-true, eqb-false}
use Rattle.queue_event.specs.Words.{put, filled, next_of, tag_of, In}
use Rattle.queue_event.specs.Chain.{pick, mark_of, rank_of, Chain, Node, nodes}
use Rattle.queue_event.specs.Links.{link_by, pred_by, Joined}
use Rattle.queue_event.specs.Order.{stays, keeps, insert_sorted, spot, fresh, Inserted}
use Rattle.queue_event.proofs.Links.{join_front, join_after}

-- ---- the order within a chain

leb_not : (m n : ℕ) → leb m n ≡ not (ltb n m)
leb_not m n = go (ltb n m) refl
  where
    go : (x : Bool) → ltb n m ≡ x → leb m n ≡ not x
    go true p = lt-leb m n (omega (arith, ltb-true n m p))
    go false p = le-leb m n (omega (arith, ltb-false n m p))

not_both : (b : Bool) → b ≡ not b → ⊥
not_both true e = let z : ◌≡◌ {A = ℕ} 0 1 = cc in omega arith
not_both false e = let z : ◌≡◌ {A = ℕ} 0 1 = cc in omega arith

module _ (a s b t : ℕ) where
  pub stays_less : a < b → stays a s b t ≡ true
  unfolding stays
  stays_less h = rw (le-ltb b a (omega arith), ne_eqb b a (λ e. omega arith))

  pub stays_same : a ≡ b → stays a s b t ≡ leb (rank_of s) (rank_of t)
  unfolding stays
  stays_same e = rw (le-ltb b a (omega arith), eq-eqb b a (sym e)) (sym (leb_not (rank_of s) (rank_of t)))

-- what the test says, either way
pub stays_true : (a s b t : ℕ) → stays a s b t ≡ true → (a ≤ b) × (a ≡ b → rank_of s ≤ rank_of t)
unfolding stays
stays_true a s b t = go (ltb b a) refl (eqb b a) refl (ltb (rank_of t) (rank_of s)) refl
  where
    go : (x : Bool) → ltb b a ≡ x → (y : Bool) → eqb b a ≡ y → (z : Bool) → ltb (rank_of t) (rank_of s) ≡ z → not (x || y && z) ≡ true → (a ≤ b) × (a ≡ b → rank_of s ≤ rank_of t)
    go true p y q z u e = absurd (not_both false e)
    go false p true q true u e = absurd (not_both false e)
    go false p true q false u e = (omega (arith, ltb-false b a p), λ i. omega (arith, ltb-false (rank_of t) (rank_of s) u))
    go false p false q z u e = (omega (arith, ltb-false b a p), λ i. absurd (eqb-false b a q (sym i)))

pub stays_false : (a s b t : ℕ) → stays a s b t ≡ false → (b ≤ a) × (b ≡ a → rank_of t ≤ rank_of s)
unfolding stays
stays_false a s b t = go (ltb b a) refl (eqb b a) refl (ltb (rank_of t) (rank_of s)) refl
  where
    go : (x : Bool) → ltb b a ≡ x → (y : Bool) → eqb b a ≡ y → (z : Bool) → ltb (rank_of t) (rank_of s) ≡ z → not (x || y && z) ≡ false → (b ≤ a) × (b ≡ a → rank_of t ≤ rank_of s)
    go true p y q z u e = (omega (arith, ltb-true b a p), λ i. absurd (omega (arith, ltb-true b a p)))
    go false p true q true u e = (omega (arith, eqb-true b a q), λ i. omega (arith, ltb-true (rank_of t) (rank_of s) u))
    go false p true q false u e = absurd (not_both true e)
    go false p false q z u e = absurd (not_both true e)

-- ---- insertion is linking by the order within a chain

spot_is : (m t : ℕ) (l : List Node) (p : ℕ) → spot l p m t ≡ pred_by (keeps m t) l p
unfolding spot pred_by
spot_is m t [] p = refl
spot_is m t (y ∷ l) p = ap (λ z. pick (keeps m t y) z p) (spot_is m t l y.at)

insert_is : (x : Node) (l : List Node) → link_by (keeps x.rec.moment x.rec.tag) x l ≡ insert_sorted x l
unfolding link_by insert_sorted
insert_is x [] = refl
insert_is x (y ∷ l) = ap (λ z. pick (keeps x.rec.moment x.rec.tag y) (y ∷ z) (x ∷ y ∷ l)) (insert_is x l)

inserted : (rs rs' : List ℕ) (head count place m l t r : ℕ) → Joined (mark_of t) (link_by (keeps m t) (fresh place m l t)) rs rs' head count place r → Inserted rs rs' head count place m l t r
inserted rs rs' head count place m l t r j = record {
  len = j.len;
  got = λ x z. let g = j.got x z in record { chain = g.chain; held = g.held ∙ insert_is (fresh place m l t) x };
  free = j.free;
  others = j.others;
}

module _ (rs : List ℕ) (count head place m l t pred : ℕ) (c : Chain rs (mark_of t) count head) (nz : mark_of t ≡ 0 → ⊥) (i : In rs place) (mp : mark_of (tag_of rs place) ≡ 0)
    (ep : pred ≡ spot (nodes rs count head) 0 m t) where
  by_test : pred ≡ pred_by (keeps m t) (nodes rs count head) 0
  by_test = ep ∙ spot_is m t (nodes rs count head) 0

  pub insert_front : (rs' : List ℕ) → pred ≡ 0 → rs' ≡ filled rs place head m l t → Inserted rs rs' head count place m l t place
  insert_front rs' e es = inserted rs rs' head count place m l t place (join_front (keeps m t) rs count head place m l t pred c nz i mp by_test rs' e es)

  pub insert_after : (next : ℕ) (rs₁ rs₂ : List ℕ) → (pred ≡ 0 → ⊥) → next ≡ next_of rs pred → rs₁ ≡ filled rs place next m l t → rs₂ ≡ put rs₁ pred 0 place → Inserted rs rs₂ head count place m l t head
  insert_after next rs₁ rs₂ d en e₁ e₂ = inserted rs rs₂ head count place m l t head (join_after (keeps m t) rs count head place m l t pred c nz i mp by_test next rs₁ rs₂ d en e₁ e₂)
