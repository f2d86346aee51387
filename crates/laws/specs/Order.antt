-- Chains in order: no element is before the one in front of it; queueing, adding and taking the first keep that.
use Rattle.std.specs.Prelude.{ℕ, ◌≤◌, ◌≡◌, refl, ◌⊎◌, Bool, true, false, not, ◌&&◌, ◌||◌, ltb, eqb}
use Rattle.std.proofs.Common.{ap, ap₂, inl, inr, true≢false, arith, ltb-true, eqb-true, le-ltb, ne_eqb}
use Rattle.std.proofs.lemmas.Bool.{false≢true}
use mathlib.Core.List.{List, [], ◌∷◌, tail}
use Rattle.rules.specs.Basics.{before, rank}
use Rattle.rules.specs.State.{Event, Held, Aggregate}
use Rattle.rules.specs.Queueing.{insert}
use Rattle.rules.specs.Aggregates.{insert_aggregate}
use Rattle.laws.specs.Branches.{by_if, by_test, both}

-- the first of the list is not before x
abbrev pub not_before_first : {A : Type 0} → (A → A → Bool) → A → List A → Bool
not_before_first lt x [] = true
not_before_first lt x (y ∷ l) = not (lt y x)

-- no element is before the one in front of it
abbrev pub in_order : {A : Type 0} → (A → A → Bool) → List A → Bool
in_order lt [] = true
in_order lt (x ∷ l) = not_before_first lt x l && in_order lt l

-- events by (moment, rank), aggregates by moment
unfoldable pub event_before : Held Event → Held Event → Bool
event_before a b = before a.value.moment (rank a.value.kind) b.value.moment (rank b.value.kind)

abbrev pub aggregate_before : Held Aggregate → Held Aggregate → Bool
aggregate_before a b = ltb a.value.moment b.value.moment

-- a chain in order without its first
pub order_tail : {A : Type 0} (lt : A → A → Bool) (l : List A) → in_order lt l ≡ true → in_order lt (tail l) ≡ true
order_tail lt [] h = refl
order_tail lt (x ∷ l) h = (both (not_before_first lt x l) (in_order lt l) h).1

-- ---- an event queued

either : (a b c : Bool) → (a || b && c) ≡ true → (a ≡ true) ⊎ (c ≡ true)
either true b c h = inl refl
either false true c h = inr h
either false false c h = absurd (false≢true h)

neither : (a b c : Bool) → a ≡ false → (b ≡ false) ⊎ (c ≡ false) → (a || b && c) ≡ false
neither true b c h g = h
neither false true c h (inl g) = absurd (true≢false g)
neither false true c h (inr g) = g
neither false false c h g = refl

not_later : (m r n k : ℕ) → before m r n k ≡ true → m ≤ n
not_later m r n k h = go (ltb m n) refl (eqb m n) refl h
  where
    go : (a : Bool) → ltb m n ≡ a → (b : Bool) → eqb m n ≡ b → (a || b && ltb r k) ≡ true → m ≤ n
    go true e b f g = omega (arith, ltb-true m n e)
    go false e true f g = omega (arith, eqb-true m n f)
    go false e false f g = absurd (false≢true g)

before_not : (m r n k : ℕ) → before m r n k ≡ true → before n k m r ≡ false
before_not m r n k h =
    neither (ltb n m) (eqb n m) (ltb k r) (le-ltb n m (not_later m r n k h)) (go (either (ltb m n) (eqb m n) (ltb r k) h))
  where
    go : (ltb m n ≡ true) ⊎ (ltb r k ≡ true) → (eqb n m ≡ false) ⊎ (ltb k r ≡ false)
    go (inl e) = inl (ne_eqb n m (λ (g : n ≡ m). omega (arith, ltb-true m n e)))
    go (inr e) = inr (le-ltb k r (omega (arith, ltb-true r k e)))

starts : (e x : Held Event) (l : List (Held Event)) → event_before e x ≡ false → not_before_first event_before x l ≡ true → not_before_first event_before x (insert e l) ≡ true
starts e x [] b h = ap not b
starts e x (y ∷ l) b h =
    by_if
    (λ (m : List (Held Event)). not_before_first event_before x m ≡ true)
    (before e.value.moment (rank e.value.kind) y.value.moment (rank y.value.kind))
    (ap not b)
    h

-- an event queued
pub insert_in_order : (e : Held Event) (l : List (Held Event)) → in_order event_before l ≡ true → in_order event_before (insert e l) ≡ true
unfolding event_before
insert_in_order e [] h = refl
insert_in_order e (x ∷ l) h =
    by_test
    (λ (m : List (Held Event)). in_order event_before m ≡ true)
    (before e.value.moment (rank e.value.kind) x.value.moment (rank x.value.kind))
    (λ b. ap₂ (◌&&◌) (ap not (before_not e.value.moment (rank e.value.kind) x.value.moment (rank x.value.kind) b)) h)
    (λ b. ap₂ (◌&&◌) (starts e x l b g.0) (insert_in_order e l g.1))
  where
    g : (not_before_first event_before x l ≡ true) × (in_order event_before l ≡ true)
    g = both (not_before_first event_before x l) (in_order event_before l) h

-- ---- an aggregate added

aggregate_starts :
    (a x : Held Aggregate) (l : List (Held Aggregate)) → aggregate_before a x ≡ false → not_before_first aggregate_before x l ≡ true
    → not_before_first aggregate_before x (insert_aggregate a l) ≡ true
aggregate_starts a x [] b h = ap not b
aggregate_starts a x (y ∷ l) b h =
    by_if (λ (m : List (Held Aggregate)). not_before_first aggregate_before x m ≡ true) (ltb a.value.moment y.value.moment) (ap not b) h

-- an aggregate added
pub order_insert_aggregate : (a : Held Aggregate) (l : List (Held Aggregate)) → in_order aggregate_before l ≡ true → in_order aggregate_before (insert_aggregate a l) ≡ true
order_insert_aggregate a [] h = refl
order_insert_aggregate a (x ∷ l) h =
    by_test
    (λ (m : List (Held Aggregate)). in_order aggregate_before m ≡ true)
    (ltb a.value.moment x.value.moment)
    (λ b. ap₂ (◌&&◌) (ap not (le-ltb x.value.moment a.value.moment (omega (arith, ltb-true a.value.moment x.value.moment b)))) h)
    (λ b. ap₂ (◌&&◌) (aggregate_starts a x l b g.0) (order_insert_aggregate a l g.1))
  where
    g : (not_before_first aggregate_before x l ≡ true) × (in_order aggregate_before l ≡ true)
    g = both (not_before_first aggregate_before x l) (in_order aggregate_before l) h
