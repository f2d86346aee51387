-- What the chains of accepted words hold is what an accepted state's chains hold: events in their chains and in order, stamps, aggregates. Assumes nothing.
use Prim.Native.Nat.{ℕ, ◌≤◌, ◌<◌, ◌%◌}
use mathlib.Core.Path.{◌≡◌, refl, sym, ap, subst, ◌∙◌}
use mathlib.Core.Bool.{Bool, true, false, not, ◌&&◌, ◌||◌}
use mathlib.Core.List.{List, [], ◌∷◌, map}
use native.Mathlib.Omega.{arith}
use native.Mathlib.Decide.{ℕ_discrete}
use lib.Dec.{eqb, ltb}
use borrow.Author.Tests.{eqb-true, eqb-false, ltb-true, ltb-false, le-ltb, ne_eqb}
use Rattle.std.specs.Prelude.{if◌then◌else◌}
use Rattle.rules.specs.Basics.{before, Side}
use Rattle.rules.specs.Limits.{moment_limit}
use Rattle.rules.specs.State.{Held, Aggregate, Event, Chain, base, blocking, bypassable, internal}
use Rattle.laws.specs.Fits.{All}
use Rattle.laws.specs.Order.{in_order, event_before, aggregate_before}
use Rattle.laws.specs.Sound.{MachineOk as MachineFits, EventOk as EventFits, ChainOk as ChainFits, AggregateOk as AggregateFits}
use Rattle.queue_event.specs.Chain.{rank_of, Rec, Node}
use Rattle.queue_event.specs.Tag.{flag, kind_field, bypass_field}
use Rattle.layout.specs.Records.{MachineBelow, NoMachine, KindOk, RecordOk, Follows, Fit, Ordered}
use Rattle.layout.specs.Layout.{event_from, aggregate_from, held_event, held_stamp, held_aggregate}
use Rattle.layout.proofs.Order.{chain_kind, machine_kind, rank_kind, Ranked, fit_ranked}

-- ---- an event

-- base, blocking, bypassable, internal: the chain's number modulo 5
abbrev pub place_no : Chain → ℕ
place_no base = 1
place_no blocking = 2
place_no bypassable = 3
place_no internal = 4

chain_from : (c : Chain) (n f : ℕ) → KindOk (place_no c) n f → (if eqb n 0 then if flag f then bypassable else blocking else if eqb n 1 then base else internal) ≡ c
chain_from base n f k = rw (k.base refl)
chain_from blocking n f k = rw (k.waiting (omega arith) (omega arith), k.bypass (omega arith) (omega arith))
chain_from bypassable n f k = rw (k.waiting (omega arith) (omega arith), k.bypass (omega arith) (omega arith))
chain_from internal n f k = let l = k.internal (omega arith) in rw (ne_eqb n 0 (λ e. omega arith), ne_eqb n 1 (λ e. omega arith))

machine_from : (n c m : ℕ) → MachineBelow n c m → NoMachine n m → MachineFits (eqb n 2 || eqb n 6 || ltb 7 n) c m
machine_from n c m k none = go (eqb n 2) refl (eqb n 6) refl (ltb 7 n) refl
  where
    go : (x : Bool) → eqb n 2 ≡ x → (y : Bool) → eqb n 6 ≡ y → (z : Bool) → ltb 7 n ≡ z → MachineFits (x || y || z) c m
    go true p y q z u = k.padding (eqb-true n 2 p)
    go false p true q z u = k.blocking (eqb-true n 6 q)
    go false p false q true u = k.timer (ltb-true 7 n u)
    go false p false q false u = none (eqb-false n 2 p) (eqb-false n 6 q) (ltb-false 7 n u)

event_fits : (z : Side) (c : Chain) (k n : ℕ) (x : Rec) → place_no c ≡ k % 5 → 0 < k % 5 → k < 11 → RecordOk k n x.moment x.size x.tag → EventFits n z c (event_from z x)
unfolding event_from
event_fits z c k n x e lo hi r =
    let f = r.shape.event lo hi in
    let o = r.event lo hi in
    let kd : KindOk (place_no c) (kind_field x.tag) (bypass_field x.tag) = subst (λ p. KindOk p (kind_field x.tag) (bypass_field x.tag)) (sym e) f.kind in
    record {
      of_side = refl;
      of_chain = chain_kind (flag (bypass_field x.tag)) (kind_field x.tag) (omega (arith, kd.kinds)) ∙ chain_from c (kind_field x.tag) (bypass_field x.tag) kd;
      moment = o.moments;
      delay = o.spans;
      machine = rw (machine_kind (kind_field x.tag) (omega (arith, kd.kinds))) (machine_from (kind_field x.tag) n _ o.machine f.machine);
    }

events_fit : (z : Side) (c : Chain) (k n : ℕ) (l : List Node) → place_no c ≡ k % 5 → 0 < k % 5 → k < 11 → Fit k n l → All (λ (e : Held Event). EventFits n z c e.value) (map (held_event z) l)
unfolding Fit
events_fit z c k n [] e lo hi f = tt
events_fit z c k n (x ∷ l) e lo hi f = (event_fits z c k n x.rec e lo hi f.0, events_fit z c k n l e lo hi f.1)

-- ---- in order

not_before_lem : (m r m' r' : ℕ) → m ≤ m' → (m ≡ m' → r ≤ r') → not (before m' r' m r) ≡ true
not_before_lem m r m' r' a b = go (ℕ_discrete m m')
  where
    go : Dec (m ≡ m') → not (before m' r' m r) ≡ true
    go (yes e) = let l = b e in rw (le-ltb m' m (omega arith), le-ltb r' r l) (last (eqb m' m))
      where
        last : (x : Bool) → not (false || x && false) ≡ true
        last true = refl
        last false = refl
    go (no d) = rw (le-ltb m' m (omega arith), ne_eqb m' m (λ e. d (sym e)))

both_true : (a b : Bool) → a ≡ true → b ≡ true → (a && b) ≡ true
both_true a b p q = λ d. p d && q d

event_after :
    (z : Side) (k : ℕ) (x y : Node) → 0 < k % 5 → rank_of x.rec.tag < 10 → rank_of y.rec.tag < 10 → Follows k x.rec.moment (kind_field x.rec.tag) y.rec.moment (kind_field y.rec.tag)
    → not (event_before (held_event z y) (held_event z x)) ≡ true
unfolding event_before event_from
event_after z k x y lo rx ry f =
    rw (rank_kind (rank_of x.rec.tag) rx, rank_kind (rank_of y.rec.tag) ry)
    (not_before_lem x.rec.moment (rank_of x.rec.tag) y.rec.moment (rank_of y.rec.tag) (f.moments lo) (f.ranks lo))

events_order : (z : Side) (k m r : ℕ) (l : List Node) → 0 < k % 5 → Ranked l → Ordered k m r l → in_order event_before (map (held_event z) l) ≡ true
unfolding Ranked Ordered
events_order z k m r [] lo s o = refl
events_order z k m r (x ∷ []) lo s o = refl
events_order z k m r (x ∷ (y ∷ l)) lo s o =
    both_true (not (event_before (held_event z y) (held_event z x))) (in_order event_before (map (held_event z) (y ∷ l))) (event_after z k x y lo s.0 s.1.0 o.1.0)
    (events_order z k x.rec.moment (kind_field x.rec.tag) (y ∷ l) lo s.1 o.1)

-- an event chain
pub chain_fits : (z : Side) (c : Chain) (k n : ℕ) (l : List Node) → place_no c ≡ k % 5 → 0 < k % 5 → k < 11 → Fit k n l → Ordered k 0 0 l → ChainFits n z c (map (held_event z) l)
chain_fits z c k n l e lo hi f o = record { events = events_fit z c k n l e lo hi f; order = events_order z k 0 0 l lo (fit_ranked k n l lo hi f) o }

-- ---- stamps and aggregates

pub stamps_fit : (k n : ℕ) (l : List Node) → k % 5 ≡ 0 → 0 < k → Fit k n l → All (λ (t : Held ℕ). t.value ≤ moment_limit) (map held_stamp l)
unfolding Fit
stamps_fit k n [] lo hi f = tt
stamps_fit k n (x ∷ l) lo hi f = (f.0.stamp lo hi, stamps_fit k n l lo hi f.1)

pub aggregates_fit : (n : ℕ) (l : List Node) → Fit 11 n l → All (λ (a : Held Aggregate). AggregateFits a.value) (map held_aggregate l)
unfolding Fit aggregate_from
aggregates_fit n [] f = tt
aggregates_fit n (x ∷ l) f = (((f.0.aggregate refl).moments, (f.0.aggregate refl).spans), aggregates_fit n l f.1)

pub aggregates_order : (m r : ℕ) (l : List Node) → Ordered 11 m r l → in_order aggregate_before (map held_aggregate l) ≡ true
unfolding aggregate_from Ordered
aggregates_order m r [] o = refl
aggregates_order m r (x ∷ []) o = refl
aggregates_order m r (x ∷ (y ∷ l)) o =
    both_true (not (aggregate_before (held_aggregate y) (held_aggregate x))) (in_order aggregate_before (map held_aggregate (y ∷ l))) (ap not (le-ltb y.rec.moment x.rec.moment (o.1.0.moments (omega arith)))) (aggregates_order x.rec.moment (kind_field x.rec.tag) (y ∷ l) o.1)
