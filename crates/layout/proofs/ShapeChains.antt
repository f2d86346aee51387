-- Records of the shape whose values are inside the limits may stand in their chain; chains whose values are in order are in order. Assumes nothing.
use Prim.Native.Nat.{ℕ, ◌*◌, ◌/◌, ◌%◌, ◌<◌, ◌≤◌}
use mathlib.Core.Path.{◌≡◌, refl, sym, ap, subst, ◌∙◌}
use mathlib.Core.Bool.{Bool, true, false, not, ◌&&◌, ◌||◌, false≢true}
use mathlib.Core.List.{List, [], ◌∷◌, map}
use native.Mathlib.Omega.{arith}
use lib.Dec.{ltb, eqb}
use borrow.Author.Tests.{ltb-false, eqb-false, lt-ltb}
use Rattle.rules.specs.Basics.{before, Side, has_machine, rank}
use Rattle.rules.specs.State.{Aggregate, Chain, Event, Held}
use Rattle.rules.specs.Limits.{moment_limit}
use Rattle.laws.specs.Branches.{both}
use Rattle.laws.specs.Fits.{All}
use Rattle.laws.specs.Order.{in_order, event_before, aggregate_before}
use Rattle.laws.specs.Sound.{MachineOk as HeldMachine, EventOk as HeldEvent, AggregateOk as HeldAggregate}
use Rattle.queue_event.specs.Chain.{Node, rank_of}
use Rattle.queue_event.specs.Tag.{kind_field}
use Rattle.event.specs.Values.{kind_at}
use Rattle.layout.specs.Records.{MachineBelow, Fit, Ordered}
use Rattle.layout.specs.Layout.{event_from, aggregate_from, held_event, held_aggregate, held_stamp}
use Rattle.layout.specs.Shape.{Shapes}
use Rattle.layout.proofs.Order.{machine_kind, rank_kind, Ranked}

-- ---- each record may stand in its chain

pub shapes_ranked : (k : ℕ) (l : List Node) → 0 < k % 5 → k < 11 → Shapes k l → Ranked l
unfolding Shapes Ranked
shapes_ranked k [] a b s = tt
shapes_ranked k (x ∷ l) a b s = (let z = (s.0.event a b).kind.kinds in omega arith, shapes_ranked k l a b s.1)

pub fit_free : (c : ℕ) (l : List Node) → Shapes 0 l → Fit 0 c l
unfolding Shapes Fit
fit_free c [] s = tt
fit_free c (x ∷ l) s =
    (record { shape = s.0; event = λ a b. absurd (omega arith); stamp = λ a b. absurd (omega arith); aggregate = λ a. absurd (omega arith) }, fit_free c l s.1)

or_last : (x y : Bool) → (x || y || true) ≡ true
or_last true y = refl
or_last false true = refl
or_last false false = refl

-- a kind with a machine, by its number
machine_fits : (k n m : ℕ) → k < 10 → HeldMachine (has_machine (kind_at k)) n m → MachineBelow k n m
machine_fits k n m l f =
    record {
      padding = λ e. subst (λ (x : ℕ). HeldMachine (has_machine (kind_at x)) n m) e f;
      blocking = λ e. subst (λ (x : ℕ). HeldMachine (has_machine (kind_at x)) n m) e f;
      timer = λ e. subst (λ (b : Bool). HeldMachine b n m) {y = true} (has ∙ ap (λ (b : Bool). eqb k 2 || eqb k 6 || b) (lt-ltb 7 k e) ∙ or_last (eqb k 2) (eqb k 6)) f;
    }
  where
    has : has_machine (kind_at k) ≡ (eqb k 2 || eqb k 6 || ltb 7 k)
    has = machine_kind k l

pub fit_events :
    (k c : ℕ) (z : Side) (of : Chain) (l : List Node) → 0 < k % 5 → k < 11 → Shapes k l → All (λ (e : Held Event). HeldEvent c z of e.value) (map (held_event z) l) → Fit k c l
unfolding Shapes Fit event_from
fit_events k c z of [] a b s h = tt
fit_events k c z of (x ∷ l) a b s h = (
  record {
    shape = s.0;
    event = λ p q. let kk = (s.0.event p q).kind.kinds in
        record { moments = h.0.moment; spans = h.0.delay; machine = machine_fits (kind_field x.rec.tag) c _ (omega arith) h.0.machine };
    stamp = λ p q. absurd (omega arith);
    aggregate = λ p. absurd (omega arith);
  },
  fit_events k c z of l a b s.1 h.1,
)

pub fit_stamps : (k c : ℕ) (l : List Node) → k % 5 ≡ 0 → 0 < k → k < 11 → Shapes k l → All (λ (t : Held ℕ). t.value ≤ moment_limit) (map held_stamp l) → Fit k c l
unfolding Shapes Fit
fit_stamps k c [] a b d s h = tt
fit_stamps k c (x ∷ l) a b d s h = (
  record {
    shape = s.0;
    event = λ p q. absurd (omega arith);
    stamp = λ p q. h.0;
    aggregate = λ p. absurd (omega arith);
  },
  fit_stamps k c l a b d s.1 h.1,
)

pub fit_aggregates : (c : ℕ) (l : List Node) → Shapes 11 l → All (λ (a : Held Aggregate). HeldAggregate a.value) (map held_aggregate l) → Fit 11 c l
unfolding Shapes Fit aggregate_from
fit_aggregates c [] s h = tt
fit_aggregates c (x ∷ l) s h = (
  record {
    shape = s.0;
    event = λ p q. absurd (omega arith);
    stamp = λ p q. absurd (omega arith);
    aggregate = λ p. record { moments = h.0.0; spans = h.0.1 };
  },
  fit_aggregates c l s.1 h.1,
)

-- ---- in order

-- stamps and free records have none
pub order_none : (k m r : ℕ) (l : List Node) → k % 5 ≡ 0 → Ordered k m r l
unfolding Ordered
order_none k m r [] e = tt
order_none k m r (x ∷ l) e = (record { moments = λ p. absurd (omega arith); ranks = λ p q. absurd (omega arith) }, order_none k x.rec.moment (kind_field x.rec.tag) l e)

not_before_lem : (a r b s : ℕ) → not (before b s a r) ≡ true → (a ≤ b) × (a ≡ b → r ≤ s)
not_before_lem a r b s = go (ltb b a) refl (eqb b a) refl (ltb s r) refl
  where
    go : (x : Bool) → ltb b a ≡ x → (y : Bool) → eqb b a ≡ y → (z : Bool) → ltb s r ≡ z → not (x || y && z) ≡ true → (a ≤ b) × (a ≡ b → r ≤ s)
    go true p y q z u e = absurd (false≢true e)
    go false p true q true u e = absurd (false≢true e)
    go false p true q false u e = (ltb-false b a p, λ i. ltb-false s r u)
    go false p false q z u e = (ltb-false b a p, λ i. absurd (eqb-false b a q (sym i)))

-- events after x
events_after :
    (k : ℕ) (z : Side) (x : Node) (l : List Node) → rank_of x.rec.tag < 10 → Ranked l → in_order event_before (map (held_event z) (x ∷ l)) ≡ true
    → Ordered k x.rec.moment (kind_field x.rec.tag) l
unfolding Ordered Ranked event_before event_from
events_after k z x [] a b h = tt
events_after k z x (y ∷ l) a b h =
    let g = both (not (before y.rec.moment (rank (kind_at (kind_field y.rec.tag))) x.rec.moment (rank (kind_at (kind_field x.rec.tag))))) (in_order event_before (map (held_event z) (y ∷ l))) h in
    let f = rw (rank_kind (kind_field y.rec.tag) b.0, rank_kind (kind_field x.rec.tag) a) at g.0 in
    let e = not_before_lem x.rec.moment (kind_field x.rec.tag) y.rec.moment (kind_field y.rec.tag) f in
    (record { moments = λ p. e.0; ranks = λ p q. e.1 q }, events_after k z y l b.0 b.1 g.1)

pub order_events : (k : ℕ) (z : Side) (l : List Node) → Ranked l → in_order event_before (map (held_event z) l) ≡ true → Ordered k 0 0 l
unfolding Ordered Ranked
order_events k z [] r h = tt
order_events k z (x ∷ l) r h = (record { moments = λ p. omega arith; ranks = λ p q. omega arith }, events_after k z x l r.0 r.1 h)

-- an aggregate's rank is 0
pub aggregate_rank : (t : ℕ) → t % 2048 ≡ 11 → kind_field t ≡ 0
aggregate_rank t e = ap (λ x. x % 16) p ∙ q
  where
    p : t / 16 ≡ 128 * (t / 2048)
    p = omega arith

    q : (128 * (t / 2048)) % 16 ≡ 0
    q = omega arith

-- aggregates after x
aggregates_after : (x : Node) (l : List Node) → Shapes 11 l → kind_field x.rec.tag ≡ 0 → in_order aggregate_before (map held_aggregate (x ∷ l)) ≡ true → Ordered 11 x.rec.moment (kind_field x.rec.tag) l
unfolding Ordered Shapes aggregate_from
aggregates_after x [] s e h = tt
aggregates_after x (y ∷ l) s e h =
    let g = both (not (ltb y.rec.moment x.rec.moment)) (in_order aggregate_before (map held_aggregate (y ∷ l))) h in
    let f = aggregate_rank y.rec.tag (s.0.aggregate refl).rest in
    (record { moments = λ p. go (ltb y.rec.moment x.rec.moment) refl g.0; ranks = λ p q. omega arith }, aggregates_after y l s.1 f g.1)
  where
    go : (b : Bool) → ltb y.rec.moment x.rec.moment ≡ b → not b ≡ true → x.rec.moment ≤ y.rec.moment
    go true p q = absurd (false≢true q)
    go false p q = ltb-false y.rec.moment x.rec.moment p

pub order_aggregates : (l : List Node) → Shapes 11 l → in_order aggregate_before (map held_aggregate l) ≡ true → Ordered 11 0 0 l
unfolding Ordered Shapes
order_aggregates [] s h = tt
order_aggregates (x ∷ l) s h =
    (record { moments = λ p. omega arith; ranks = λ p q. omega arith }, aggregates_after x l s.1 (aggregate_rank x.rec.tag (s.0.aggregate refl).rest) h)
