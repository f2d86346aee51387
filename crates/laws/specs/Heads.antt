-- An event that a round or a step takes up is the first of its chain, on the side that it names.
use Rattle.std.specs.Prelude.{ℕ, ◌+◌, ◌-◌, ◌≡◌, refl, Bool}
use Rattle.std.proofs.Common.{ap}
use Rattle.std.proofs.Math.Path.{subst⁻¹}
use mathlib.Core.List.{List, [], ◌∷◌, head?}
use Rattle.std.proofs.Math.Option.{Option, none, some, map, get_or}
use Rattle.rules.specs.Basics.{Delay, after, absent, ◌≤ᵈ◌, Side, client, server}
use Rattle.rules.specs.State.{Event, Held, in_record, Chain, base, blocking, bypassable, internal, SideState, State, queue, side}
use Rattle.rules.specs.ChoiceHeads.{Head, head_as, first_by, by_moment, by_raw_moment, by_delay, internal_head, base_head, side_head, queue_head, waiting_head, passing_head, waiting_first, not_before, earliest_of_side, head_delay, earliest_blocked, held_back, peek_from, peek_queue}
use Rattle.rules.specs.ChoiceDelays.{Delays, delays, offered, next_block}
use Rattle.rules.specs.ChoiceRound.{Slot, Candidate, an_aggregate, a_block, an_event, a_timer, an_action, none_left, or_none, timer_slot, due_timer, due_action, action_slot, action_in, action_from, aggregate_first, block_first, event_first, timer_first, candidate}
use Rattle.laws.specs.Branches.{by_if}
use Rattle.laws.specs.Fits.{All}
use Rattle.laws.specs.Sound.{EventOk, SideOk, Sound, sound_side}

-- what holds of two heads holds of the first of them
first_holds : (P : Option Head → Type 0) (lt : Head → Head → Bool) (a b : Option Head) → P a → P b → P (first_by lt a b)
unfolding first_by
first_holds P lt none b p q = q
first_holds P lt (some a) none p q = p
first_holds P lt (some a) (some b) p q = by_if P (lt b a) q p

-- ---- of one side

-- the head is of side z, and the first of its chain in x
abbrev pub HeadIn : Side → SideState → Option Head → Type 0
HeadIn z x none = Unit
HeadIn z x (some h) = (h.event.side ≡ z) × (head? (queue x.queues h.chain) ≡ some (in_record h.place h.event))

head_in_lem : (z : Side) (x : SideState) (c : Chain) (p : ℕ) → SideOk z x → HeadIn z x (head_as c p (queue x.queues c))
unfolding head_as
head_in_lem z x c p o = go (queue x.queues c) refl (o.chains c).events
  where
    go :
        (l : List (Held Event)) → queue x.queues c ≡ l → All (λ (e : Held Event). EventOk x.fixed.machines z c e.value) l
        → HeadIn z x (head_as c p l)
    go [] e h = tt
    go (v ∷ l) e h = (h.0.of_side, ap head? e)

side_head_in : (z : Side) (x : SideState) → SideOk z x → HeadIn z x (side_head x)
unfolding side_head
side_head_in z x o =
    first_holds (HeadIn z x) by_moment _ _ (head_in_lem z x base x.sum o)
    (first_holds (HeadIn z x) by_moment _ _
    (first_holds (HeadIn z x) by_moment _ _ (head_in_lem z x bypassable 0 o) (head_in_lem z x blocking 0 o))
    (head_in_lem z x internal 0 o))

-- the first waiting packet
pub waiting_in : (z : Side) (x : SideState) (flag : Bool) → SideOk z x → HeadIn z x (waiting_head flag x)
unfolding waiting_head
waiting_in z x flag o =
    by_if (HeadIn z x) flag (head_in_lem z x blocking 0 o) (first_holds (HeadIn z x) by_moment _ _ (head_in_lem z x bypassable 0 o) (head_in_lem z x blocking 0 o))

passing_in : (z : Side) (x : SideState) (flag : Bool) → SideOk z x → HeadIn z x (passing_head flag x)
unfolding passing_head
passing_in z x flag o = by_if (HeadIn z x) flag (first_holds (HeadIn z x) by_raw_moment _ _ n (head_in_lem z x bypassable 0 o)) n
  where
    n : HeadIn z x (first_by by_moment (base_head x) (internal_head x))
    n = first_holds (HeadIn z x) by_moment _ _ (head_in_lem z x base x.sum o) (head_in_lem z x internal 0 o)

later_in : (z : Side) (x : SideState) (t : ℕ) (o : Option Head) → HeadIn z x o → HeadIn z x (map (not_before t) o)
later_in z x t none h = tt
later_in z x t (some g) h = h

earliest_in : (z : Side) (x : SideState) (now : ℕ) → SideOk z x → HeadIn z x (earliest_of_side now x)
unfolding earliest_of_side
earliest_in z x now o =
    first_holds (HeadIn z x) waiting_first _ _ (passing_in z x x.block_bypassable o)
    (later_in z x (get_or x.block_end now) (waiting_head x.block_bypassable x) (waiting_in z x x.block_bypassable o))

-- ---- of the state

abbrev pub HeadOf : State → Option Head → Type 0
HeadOf s none = Unit
HeadOf s (some h) = head? (queue (side s h.event.side).queues h.chain) ≡ some (in_record h.place h.event)

named : (s : State) (z : Side) (o : Option Head) → HeadIn z (side s z) o → HeadOf s o
named s z none h = tt
named s z (some g) h = subst⁻¹ (λ (y : Side). head? (queue (side s y).queues g.chain) ≡ some (in_record g.place g.event)) h.0 h.1

-- the first waiting packet of a side, seen from the state
pub waiting_first_lem : (s : State) (z : Side) (flag : Bool) → Sound s → HeadOf s (waiting_head flag (side s z))
waiting_first_lem s z flag h = named s z (waiting_head flag (side s z)) (waiting_in z (side s z) flag (sound_side h z))

queue_head_first : (s : State) (now : ℕ) → Sound s → HeadOf s (queue_head s now)
unfolding queue_head
queue_head_first s now h =
    first_holds (HeadOf s) (by_delay now) (side_head s.client) (side_head s.server)
    (named s client (side_head s.client) (side_head_in client s.client h.client))
    (named s server (side_head s.server) (side_head_in server s.server h.server))

earliest_first : (s : State) (now : ℕ) → Sound s → HeadOf s (earliest_blocked s now)
unfolding earliest_blocked
earliest_first s now h =
    by_if
    (HeadOf s)
    (head_delay now (earliest_of_side now s.client) ≤ᵈ head_delay now (earliest_of_side now s.server))
    (named s client (earliest_of_side now s.client) (earliest_in client s.client now h.client))
    (named s server (earliest_of_side now s.server) (earliest_in server s.server now h.server))

peek_first : (s : State) (now : ℕ) (least : Delay) (o : Option Head) → Sound s → HeadOf s o → HeadOf s (peek_from s now least o)
peek_first s now least none h g = tt
peek_first s now least (some v) h g =
    by_if
    (HeadOf s)
    (after (v.moment - now) ≤ᵈ least)
    (by_if (HeadOf s) (held_back (side s v.event.side) v.event) (earliest_first s now h) g)
    tt

offered_first : (s : State) (now : ℕ) → Sound s → HeadOf s (offered s now)
unfolding offered peek_queue
offered_first s now h = peek_first s now _ (queue_head s now) h (queue_head_first s now h)

-- ---- of the candidate

abbrev pub First : State → Candidate → Type 0
First s (an_aggregate a) = Unit
First s (a_block k) = Unit
First s (an_event h) = HeadOf s (some h)
First s (a_timer z t) = Unit
First s (an_action z a) = Unit
First s none_left = Unit

first_or : {A : Type 0} (s : State) (f : A → Candidate) (o : Option A) → ((a : A) → First s (f a)) → First s (or_none f o)
first_or s f none h = tt
first_or s f (some a) h = h a

first_event : (s : State) (o : Option Head) → HeadOf s o → First s (or_none an_event o)
first_event s none h = tt
first_event s (some g) h = h

first_timer : (s : State) (now : ℕ) (i : Delay) → First s (due_timer s now i)
first_timer s now absent = tt
first_timer s now (after d) = first_or s (λ (z : Slot). a_timer z (now + d)) (timer_slot s (now + d)) (λ z. tt)

first_action : (s : State) (now : ℕ) (i : Delay) → First s (due_action s now i)
first_action s now absent = tt
first_action s now (after d) = first_or s (action_from s) (action_slot s (now + d)) (λ z. first_or s (an_action z) (action_in s z) (λ a. tt))

-- an event that a round takes up
pub candidate_first : (s : State) (now : ℕ) → Sound s → First s (candidate s now)
unfolding candidate
candidate_first s now h =
    let d : Delays = delays s now in
    by_if
    (First s)
    (aggregate_first d)
    (first_or s an_aggregate (head? s.aggregates) (λ a. tt))
    (by_if
    (First s)
    (block_first d)
    (first_or s a_block (next_block s) (λ k. tt))
    (by_if
    (First s)
    (event_first d)
    (first_event s (offered s now) (offered_first s now h))
    (by_if (First s) (timer_first d) (first_timer s now d.i) (first_action s now d.s))))
