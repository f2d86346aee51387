-- An event queued or taken and an aggregate added or dropped leave a sound state.
use Rattle.std.specs.Prelude.{ℕ, ◌≤◌, ◌≡◌, refl, ltb, eqb}
use Rattle.std.proofs.Math.Path.{subst⁻¹}
use mathlib.Core.List.{List, [], ◌∷◌, tail, map}
use Rattle.std.proofs.Math.Option.{Option, none, some}
use Rattle.std.proofs.Common.{arith, le_trans}
use Rattle.rules.specs.Basics.{before, Side, client, server, rank}
use Rattle.rules.specs.State.{Event, Held, in_record, Aggregate, Chain, base, blocking, bypassable, internal, Queues, SideState, State, queue, with_queue, with_queues, with_sum, side, with_side, with_free, free_place}
use Rattle.rules.specs.Limits.{moment_limit}
use Rattle.rules.specs.ChoiceHeads.{Head}
use Rattle.rules.specs.Queueing.{chain_of, insert, push_side, put_event, push_event}
use Rattle.rules.specs.Aggregates.{on_expire, aggregates_of, insert_aggregate, add_aggregate, add_aggregates, burst_tail, within, base_window, base_moment}
use Rattle.rules.specs.ChoiceRound.{take_aggregate, raised_sum, held_up_length, lift_event, take_event, pop_side}
use Rattle.laws.specs.Branches.{by_if}
use Rattle.laws.specs.Fits.{All, all_tail}
use Rattle.laws.specs.Order.{event_before, aggregate_before, order_tail, insert_in_order, order_insert_aggregate}
use Rattle.laws.specs.Sound.{AggregateOk, ChainOk, EventOk, SideOk, Sound, sound_side, sound_with, sum_ok}

-- ---- one chain given anew

chains_with :
    (P : Chain → List (Held Event) → Type 0) (q : Queues) (c : Chain) (l : List (Held Event)) → ((d : Chain) → P d (queue q d)) → P c l
    → (d : Chain) → P d (queue (with_queue q c l) d)
chains_with P q base l h k base = k
chains_with P q base l h k blocking = h blocking
chains_with P q base l h k bypassable = h bypassable
chains_with P q base l h k internal = h internal
chains_with P q blocking l h k base = h base
chains_with P q blocking l h k blocking = k
chains_with P q blocking l h k bypassable = h bypassable
chains_with P q blocking l h k internal = h internal
chains_with P q bypassable l h k base = h base
chains_with P q bypassable l h k blocking = h blocking
chains_with P q bypassable l h k bypassable = k
chains_with P q bypassable l h k internal = h internal
chains_with P q internal l h k base = h base
chains_with P q internal l h k blocking = h blocking
chains_with P q internal l h k bypassable = h bypassable
chains_with P q internal l h k internal = k

queues_ok : (z : Side) (x : SideState) (c : Chain) (l : List (Held Event)) → SideOk z x → ChainOk x.fixed.machines z c l → SideOk z (with_queues x (with_queue x.queues c l))
queues_ok z x c l h k =
    record {
      action = h.action;
      reporting = h.reporting;
      machines = h.machines;
      chains = chains_with (ChainOk x.fixed.machines z) x.queues c l h.chains k;
      sum = h.sum;
      stamps = h.stamps;
      timer_slots = h.timer_slots;
      action_slots = h.action_slots;
      end = h.end;
      timers = h.timers;
      actions = h.actions;
    }

all_insert : (P : Held Event → Type 0) (e : Held Event) (l : List (Held Event)) → P e → All P l → All P (insert e l)
all_insert P e [] p h = (p, tt)
all_insert P e (x ∷ l) p h =
    by_if
    (All P)
    (before e.value.moment (rank e.value.kind) x.value.moment (rank x.value.kind))
    (p, h)
    (h.0, all_insert P e l p h.1)

-- the free records play no part
pub free_sound : (s : State) (f : List ℕ) → Sound s → Sound (with_free s f)
free_sound s f h = record { client = h.client; server = h.server; aggregates = h.aggregates; order = h.order }

-- an event that has its record
pub put_sound :
    (s : State) (e : Held Event) → Sound s → EventOk (side s e.value.side).fixed.machines e.value.side (chain_of e.value) e.value
    → Sound (put_event s e)
unfolding put_event
put_sound s e h k =
    let z : Side = e.value.side in
    let x : SideState = side s z in
    let c : Chain = chain_of e.value in
    let o : ChainOk x.fixed.machines z c (queue x.queues c) = (sound_side h z).chains c in
    sound_with s z (push_side x c e) h
    (queues_ok z x c (insert e (queue x.queues c)) (sound_side h z)
    (record {
      events = all_insert (λ (v : Held Event). EventOk x.fixed.machines z c v.value) e (queue x.queues c) k o.events;
      order = insert_in_order e (queue x.queues c) o.order;
    }))

machines_free : (s : State) (f : List ℕ) (z : Side) → side (with_free s f) z ≡ side s z
machines_free s f client = refl
machines_free s f server = refl

-- a new event of side z
pub push_sound_at : (s : State) (e : Event) (z : Side) → Sound s → EventOk (side s z).fixed.machines z (chain_of e) e → Sound (push_event s e)
unfolding push_event
push_sound_at s e z h k =
    let t : State = with_free s (tail s.free) in
    put_sound t (in_record (free_place s.free) e) (free_sound s (tail s.free) h)
    (subst⁻¹ (λ (w : Side). EventOk (side t w).fixed.machines w (chain_of e) e) k.of_side
    (subst⁻¹ (λ (x : SideState). EventOk x.fixed.machines z (chain_of e) e) (machines_free s (tail s.free) z) k))

-- a new event
pub push_sound : (s : State) (e : Event) → Sound s → EventOk (side s e.side).fixed.machines e.side (chain_of e) e → Sound (push_event s e)
push_sound s e h k = push_sound_at s e e.side h k

-- an event out of its chain
pub lift_sound : (s : State) (g : Head) → Sound s → Sound (lift_event s g)
unfolding lift_event
lift_sound s g h =
    let z : Side = g.event.side in
    let x : SideState = side s z in
    let l : List (Held Event) = queue x.queues g.chain in
    let o : ChainOk x.fixed.machines z g.chain l = (sound_side h z).chains g.chain in
    sound_with s z (pop_side x g.chain) h
    (queues_ok z x g.chain (tail l) (sound_side h z)
    (record { events = all_tail (λ (v : Held Event). EventOk x.fixed.machines z g.chain v.value) l o.events; order = order_tail event_before l o.order }))

-- and its record given back
pub take_sound : (s : State) (g : Head) → Sound s → Sound (take_event s g)
unfolding take_event
take_sound s g h = free_sound (lift_event s g) (g.place ∷ s.free) (lift_sound s g h)

-- ---- aggregates

all_insert_aggregate :
    (P : Held Aggregate → Type 0) (a : Held Aggregate) (l : List (Held Aggregate)) → P a → All P l → All P (insert_aggregate a l)
all_insert_aggregate P a [] p h = (p, tt)
all_insert_aggregate P a (x ∷ l) p h =
    by_if (All P) (ltb a.value.moment x.value.moment) (p, h) (h.0, all_insert_aggregate P a l p h.1)

add_one_sound : (s : State) (a : Aggregate) → Sound s → AggregateOk a → Sound (add_aggregate s a)
unfolding add_aggregate
add_one_sound s a h k =
    let v : Held Aggregate = in_record (free_place s.free) a in
    record {
      client = h.client;
      server = h.server;
      aggregates = all_insert_aggregate (λ (b : Held Aggregate). AggregateOk b.value) v s.aggregates k h.aggregates;
      order = order_insert_aggregate v s.aggregates h.order;
    }

-- aggregates inside their limits added
pub add_sound : (s : State) (new : List Aggregate) → Sound s → All AggregateOk new → Sound (add_aggregates s new)
unfolding add_aggregates
add_sound s [] h k = h
add_sound s (a ∷ new) h k = add_sound (add_aggregate s a) new (add_one_sound s a h k.0) k.1

-- the first aggregate dropped, its length added to the sum
pub aggregate_sound : (s : State) (a : Held Aggregate) → Sound s → raised_sum s a.value ≤ moment_limit → Sound (take_aggregate s a)
unfolding take_aggregate
aggregate_sound s a h k =
    let z : Side = a.value.side in
    let x : SideState = with_sum (side s z) (raised_sum s a.value) in
    let t : Sound (with_side s z x) = sound_with s z x h (sum_ok z (side s z) (raised_sum s a.value) (sound_side h z) k) in
    record {
      client = t.client;
      server = t.server;
      aggregates = all_tail (λ (b : Held Aggregate). AggregateOk b.value) s.aggregates h.aggregates;
      order = order_tail aggregate_before s.aggregates h.order;
    }

-- ---- a block's end: the new lengths are at most its end moment

-- a length, if any, is at most n
abbrev pub AtMost : ℕ → Option ℕ → Type 0
AtMost n none = Unit
AtMost n (some k) = k ≤ n

expire_le : (x : SideState) (end u : ℕ) → AtMost end (on_expire x end u)
unfolding on_expire
expire_le x end u =
    by_if
    (AtMost end)
    (eqb end (burst_tail x u))
    tt
    (by_if (AtMost end) (within base_window u (base_moment x.sum x.queues.base)) tt (omega arith))

-- the length that a block's end is tested for
pub held_le : (x : SideState) (end : ℕ) (o : Option Head) → AtMost end (held_up_length x end o)
held_le x end none = tt
held_le x end (some g) = by_if (AtMost end) (ltb g.moment end) (expire_le x end g.moment) tt

-- the aggregates made have the length tested for
pub new_lengths : (d : ℕ) (z : Side) (at n : ℕ) (o : Option ℕ) → AtMost n o → All (λ (a : Aggregate). a.length ≤ n) (aggregates_of d z at o)
unfolding aggregates_of
new_lengths d client at n none h = tt
new_lengths d server at n none h = tt
new_lengths d client at n (some k) h = (h, (h, tt))
new_lengths d server at n (some k) h = (h, (h, tt))

-- moments that fit and lengths that are small
pub both_ok : (n : ℕ) (l : List Aggregate) → n ≤ moment_limit → All (λ (k : ℕ). k ≤ moment_limit) (map (λ (a : Aggregate). a.moment) l) → All (λ (a : Aggregate). a.length ≤ n) l → All AggregateOk l
both_ok n [] k h g = tt
both_ok n (a ∷ l) k h g = ((h.0, le_trans g.0 k), both_ok n l k h.1 g.1)
