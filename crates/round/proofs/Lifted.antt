-- The head that a round takes up is not before its event's moment, a base event's with its side's sum. Assumes nothing.
use Prim.Native.Nat.{ℕ, ◌+◌, ◌-◌, ◌≤◌}
use mathlib.Core.Path.{◌≡◌, refl, subst⁻¹}
use mathlib.Core.Bool.{Bool, false}
use mathlib.Core.List.{List, [], ◌∷◌, head?}
use mathlib.Core.Option.{Option, none, some, map, get_or}
use native.Mathlib.Omega.{arith}
use Rattle.rules.specs.Basics.{Delay, after, absent, ◌≤ᵈ◌, Side, client, server}
use Rattle.rules.specs.State.{Event, Held, Chain, base, blocking, bypassable, internal, SideState, State, queue, side}
use Rattle.rules.specs.ChoiceHeads.{Head, is_base, head_as, first_by, by_moment, by_raw_moment, by_delay, internal_head, base_head, side_head, queue_head, waiting_head, passing_head, waiting_first, not_before, earliest_of_side, head_delay, earliest_blocked, held_back, peek_from, peek_queue}
use Rattle.rules.specs.ChoiceDelays.{Delays, delays, offered, next_block}
use Rattle.rules.specs.ChoiceRound.{Slot, Candidate, an_aggregate, a_block, an_event, a_timer, an_action, none_left, or_none, timer_slot, due_timer, due_action, action_slot, action_in, action_from, aggregate_first, block_first, event_first, timer_first, candidate, shifted}
use Rattle.laws.specs.Branches.{by_if}
use Rattle.laws.specs.Fits.{All}
use Rattle.laws.specs.Sound.{EventOk, SideOk, Sound}

-- what holds of two heads holds of the first of them
first_holds : (P : Option Head → Type 0) (lt : Head → Head → Bool) (a b : Option Head) → P a → P b → P (first_by lt a b)
unfolding first_by
first_holds P lt none b p q = q
first_holds P lt (some a) none p q = p
first_holds P lt (some a) (some b) p q = by_if P (lt b a) q p

-- ---- of one side

-- the head is of side z, and at its moment or later
abbrev LiftedIn : Side → SideState → Option Head → Type 0
LiftedIn z x none = Unit
LiftedIn z x (some h) = (h.event.side ≡ z) × (shifted x h ≤ h.moment)

of_sides : (z : Side) (n : ℕ) (c : Chain) (l : List (Held Event)) → All (λ (e : Held Event). EventOk n z c e.value) l → All (λ (e : Held Event). e.value.side ≡ z) l
of_sides z n c [] h = tt
of_sides z n c (e ∷ l) h = (h.0.of_side, of_sides z n c l h.1)

-- a chain that is not base: its head is at its moment
raw_in : (z : Side) (x : SideState) (c : Chain) (l : List (Held Event)) → is_base c ≡ false → All (λ (e : Held Event). e.value.side ≡ z) l → LiftedIn z x (head_as c 0 l)
unfolding head_as
raw_in z x c [] b h = tt
raw_in z x c (e ∷ l) b h = (h.0, rw b (omega arith))

base_in : (z : Side) (x : SideState) (l : List (Held Event)) → All (λ (e : Held Event). e.value.side ≡ z) l → LiftedIn z x (head_as base x.sum l)
unfolding head_as
base_in z x [] h = tt
base_in z x (e ∷ l) h = (h.0, omega arith)

module _ (z : Side) (x : SideState) (o : SideOk z x) where
  sides : (c : Chain) → All (λ (e : Held Event). e.value.side ≡ z) (queue x.queues c)
  sides c = of_sides z x.fixed.machines c (queue x.queues c) (o.chains c).events

  base_lifted : LiftedIn z x (head_as base x.sum x.queues.base)
  base_lifted = base_in z x x.queues.base (sides base)

  blocking_lifted : LiftedIn z x (head_as blocking 0 x.queues.blocking)
  blocking_lifted = raw_in z x blocking x.queues.blocking refl (sides blocking)

  bypassable_lifted : LiftedIn z x (head_as bypassable 0 x.queues.bypassable)
  bypassable_lifted = raw_in z x bypassable x.queues.bypassable refl (sides bypassable)

  internal_lifted : LiftedIn z x (head_as internal 0 x.queues.internal)
  internal_lifted = raw_in z x internal x.queues.internal refl (sides internal)

  waiting_first_lem : LiftedIn z x (first_by by_moment (head_as bypassable 0 x.queues.bypassable) (head_as blocking 0 x.queues.blocking))
  waiting_first_lem = first_holds (LiftedIn z x) by_moment _ _ bypassable_lifted blocking_lifted

  side_lifted : LiftedIn z x (side_head x)
  unfolding side_head
  side_lifted = first_holds (LiftedIn z x) by_moment _ _ base_lifted (first_holds (LiftedIn z x) by_moment _ _ waiting_first_lem internal_lifted)

  waiting_lifted : (flag : Bool) → LiftedIn z x (waiting_head flag x)
  unfolding waiting_head
  waiting_lifted flag = by_if (LiftedIn z x) flag blocking_lifted waiting_first_lem

  passing_lifted : (flag : Bool) → LiftedIn z x (passing_head flag x)
  unfolding passing_head
  passing_lifted flag = by_if (LiftedIn z x) flag (first_holds (LiftedIn z x) by_raw_moment _ _ n bypassable_lifted) n
    where
      n : LiftedIn z x (first_by by_moment (base_head x) (internal_head x))
      n = first_holds (LiftedIn z x) by_moment _ _ base_lifted internal_lifted

  later_lifted : (t : ℕ) (o : Option Head) → LiftedIn z x o → LiftedIn z x (map (not_before t) o)
  later_lifted t none h = tt
  later_lifted t (some g) h = (h.0, omega (arith, h.1))

  earliest_lifted : (now : ℕ) → LiftedIn z x (earliest_of_side now x)
  unfolding earliest_of_side
  earliest_lifted now =
      first_holds (LiftedIn z x) waiting_first _ _ (passing_lifted x.block_bypassable)
      (later_lifted (get_or x.block_end now) (waiting_head x.block_bypassable x) (waiting_lifted x.block_bypassable))

-- ---- of the state

abbrev LiftedOf : State → Option Head → Type 0
LiftedOf s none = Unit
LiftedOf s (some h) = shifted (side s h.event.side) h ≤ h.moment

named : (s : State) (z : Side) (o : Option Head) → LiftedIn z (side s z) o → LiftedOf s o
named s z none h = tt
named s z (some g) h = subst⁻¹ (λ (y : Side). shifted (side s y) g ≤ g.moment) h.0 h.1

module _ (s : State) (now : ℕ) (h : Sound s) where
  queue_lifted : LiftedOf s (queue_head s now)
  unfolding queue_head
  queue_lifted =
      first_holds (LiftedOf s) (by_delay now) (side_head s.client) (side_head s.server)
      (named s client (side_head s.client) (side_lifted client s.client h.client))
      (named s server (side_head s.server) (side_lifted server s.server h.server))

  blocked_lifted : LiftedOf s (earliest_blocked s now)
  unfolding earliest_blocked
  blocked_lifted =
      by_if
      (LiftedOf s)
      (head_delay now (earliest_of_side now s.client) ≤ᵈ head_delay now (earliest_of_side now s.server))
      (named s client (earliest_of_side now s.client) (earliest_lifted client s.client h.client now))
      (named s server (earliest_of_side now s.server) (earliest_lifted server s.server h.server now))

  peek_lifted : (least : Delay) (o : Option Head) → LiftedOf s o → LiftedOf s (peek_from s now least o)
  peek_lifted least none g = tt
  peek_lifted least (some v) g =
      by_if (LiftedOf s) (after (v.moment - now) ≤ᵈ least) (by_if (LiftedOf s) (held_back (side s v.event.side) v.event) blocked_lifted g) tt

  offered_lifted : LiftedOf s (offered s now)
  unfolding offered peek_queue
  offered_lifted = peek_lifted _ (queue_head s now) queue_lifted

-- ---- of the candidate

abbrev pub LiftedAs : State → Candidate → Type 0
LiftedAs s (an_aggregate a) = Unit
LiftedAs s (a_block k) = Unit
LiftedAs s (an_event h) = shifted (side s h.event.side) h ≤ h.moment
LiftedAs s (a_timer z t) = Unit
LiftedAs s (an_action z a) = Unit
LiftedAs s none_left = Unit

lifted_or : {A : Type 0} (s : State) (f : A → Candidate) (o : Option A) → ((a : A) → LiftedAs s (f a)) → LiftedAs s (or_none f o)
lifted_or s f none h = tt
lifted_or s f (some a) h = h a

lifted_event : (s : State) (o : Option Head) → LiftedOf s o → LiftedAs s (or_none an_event o)
lifted_event s none h = tt
lifted_event s (some g) h = h

lifted_timer : (s : State) (now : ℕ) (i : Delay) → LiftedAs s (due_timer s now i)
lifted_timer s now absent = tt
lifted_timer s now (after d) = lifted_or s (λ (z : Slot). a_timer z (now + d)) (timer_slot s (now + d)) (λ z. tt)

lifted_action : (s : State) (now : ℕ) (i : Delay) → LiftedAs s (due_action s now i)
lifted_action s now absent = tt
lifted_action s now (after d) = lifted_or s (action_from s) (action_slot s (now + d)) (λ z. lifted_or s (an_action z) (action_in s z) (λ a. tt))

pub candidate_lifted : (s : State) (now : ℕ) → Sound s → LiftedAs s (candidate s now)
unfolding candidate
candidate_lifted s now h =
    let d : Delays = delays s now in
    by_if (LiftedAs s) (aggregate_first d) (lifted_or s an_aggregate (head? s.aggregates) (λ a. tt))
    (by_if (LiftedAs s) (block_first d) (lifted_or s a_block (next_block s) (λ k. tt))
    (by_if (LiftedAs s) (event_first d) (lifted_event s (offered s now) (offered_lifted s now h))
    (by_if (LiftedAs s) (timer_first d) (lifted_timer s now d.i) (lifted_action s now d.s))))
