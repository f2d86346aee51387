-- Laws of looking through a window of time in a chain in order. Assumes nothing.
use Prim.Native.Nat.{ℕ, ◌-◌, ◌<◌, max}
use native.Mathlib.Omega.{arith}
use mathlib.Core.Path.{◌≡◌, refl, sym, ap, subst, ◌∙◌}
use mathlib.Core.Bool.{Bool, true, false, ◌||◌}
use mathlib.Core.List.{List, [], ◌∷◌}
use lib.Dec.{leb}
use borrow.Author.Tests.{leb-false, lt-leb}
use Rattle.queue_event.specs.Words.{moment_of}
use Rattle.queue_event.specs.Chain.{pick, Node, rec_at, nodes, recs, contents}
use Rattle.queue_event.specs.Order.{Sorted, First}
use Rattle.queue_event.specs.Folds.{later, latest_of, any_within}
use Rattle.queue_event.proofs.Laws.{nodes_next}
use Rattle.queue_event.proofs.Inserts.{stays_true}

-- ---- what comes after a record past the window is past it too

module _ (from window : ℕ) where
  next_past : (x y : Node) (l : List Node) → Sorted (x ∷ y ∷ l) → leb (x.rec.moment - from) window ≡ false → leb (y.rec.moment - from) window ≡ false
  unfolding Sorted First
  next_past x y l s e = lt-leb (y.rec.moment - from) window (omega (arith, leb-false (x.rec.moment - from) window e, (stays_true _ _ _ _ s.0).0))

  pub past_latest : (best : ℕ) (x : Node) (l : List Node) → Sorted (x ∷ l) → leb (x.rec.moment - from) window ≡ false → latest_of from window best (recs (x ∷ l)) ≡ best
  unfolding latest_of later Sorted
  past_latest best x [] s e = ap (λ b. pick b (max best x.rec.moment) best) e
  past_latest best x (y ∷ l) s e =
      ap (λ b. latest_of from window (pick b (max best x.rec.moment) best) (recs (y ∷ l))) e ∙ past_latest best y l s.1 (next_past x y l s e)

  past_any : (x : Node) (l : List Node) → Sorted (x ∷ l) → leb (x.rec.moment - from) window ≡ false → any_within from window (recs (x ∷ l)) ≡ false
  unfolding any_within Sorted
  past_any x [] s e = ap (λ b. b || false) e
  past_any x (y ∷ l) s e = ap (λ b. b || any_within from window (recs (y ∷ l))) e ∙ past_any y l s.1 (next_past x y l s e)

  -- some are within it if the first is
  first_any : (x : Node) (l : List Node) → Sorted (x ∷ l) → any_within from window (recs (x ∷ l)) ≡ leb (x.rec.moment - from) window
  unfolding any_within
  first_any x l s = go (leb (x.rec.moment - from) window) refl
    where
      go : (b : Bool) → leb (x.rec.moment - from) window ≡ b → any_within from window (recs (x ∷ l)) ≡ leb (x.rec.moment - from) window
      go true e = ap (λ b. b || any_within from window (recs l)) e ∙ sym e
      go false e = past_any x l s e ∙ sym e

-- what follows the first of a list in order is in order too
pub sorted_rest : (y : Node) (l x : List Node) → l ≡ y ∷ x → Sorted l → Sorted x
unfolding Sorted
sorted_rest y l x e s = (subst Sorted e s).1

-- ---- any_within

pub any_none : (rs : List ℕ) (from window n h : ℕ) → n ≡ 0 → false ≡ any_within from window (contents rs n h)
unfolding any_within nodes
any_none rs from window n h e = rw e

pub any_first :
    (rs rs' : List ℕ) (from window n h at m : ℕ) (b : Bool) → 0 < n → at ≡ h → rs' ≡ rs → Sorted (nodes rs n h) → m ≡ moment_of rs' at → b ≡ leb (m - from) window
    → b ≡ any_within from window (contents rs n h)
unfolding rec_at
any_first rs rs' from window n h at m b z ea er s em eb =
    let e = nodes_next rs n h (omega arith) in
    rw (eb, em, er, ea) (sym (ap (λ l. any_within from window (recs l)) e ∙ first_any from window _ _ (subst Sorted e s)))
