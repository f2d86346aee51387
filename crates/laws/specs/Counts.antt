-- How the rules' changes of a state change its counts: records used, records reserved, aggregates.
use Rattle.std.specs.Prelude.{ℕ, zero, suc, ◌+◌, ◌≤◌, ◌≡◌, refl, ltb, length, set, get_or}
use Rattle.std.proofs.Common.{ap, arith}
use mathlib.Core.List.{List, [], ◌∷◌, tail, head?}
use Rattle.std.proofs.Math.Option.{Option, none, some, none-ne-some}
use Rattle.rules.specs.Basics.{before, rank, Side, client, server}
use Rattle.rules.specs.State.{Event, Held, in_record, Aggregate, Chain, base, blocking, bypassable, internal, SideState, State, queue, with_queue, with_queues, side, with_side, with_aggregates, with_free, free_place, held, queued, side_used, side_reserved, used, reserved, rounds_left}
use Rattle.rules.specs.Queueing.{insert, push_side, put_event, push_event, chain_of}
use Rattle.rules.specs.Aggregates.{insert_aggregate, add_aggregate, add_aggregates, aggregates_of}
use Rattle.laws.specs.Branches.{by_if}

-- ---- one side changed

pub used_with : (s : State) (z : Side) (x : SideState) → used (with_side s z x) + side_used (side s z) ≡ used s + side_used x
unfolding used
used_with s client x = omega arith
used_with s server x = omega arith

-- the same of reserved
pub reserved_with : (s : State) (z : Side) (x : SideState) → reserved (with_side s z x) + side_reserved (side s z) ≡ reserved s + side_reserved x
unfolding reserved
reserved_with s client x = omega arith
reserved_with s server x = omega arith

-- the side named is the one given
pub side_with : (s : State) (z : Side) (x : SideState) → side (with_side s z x) z ≡ x
side_with s client x = refl
side_with s server x = refl

-- and the aggregates stay
pub aggregates_with : (s : State) (z : Side) (x : SideState) → (with_side s z x).aggregates ≡ s.aggregates
aggregates_with s client x = refl
aggregates_with s server x = refl

-- A + 3B + T + 4S is the aggregates and what is reserved
pub rounds_left_is : (s : State) → rounds_left s ≡ length s.aggregates + reserved s
unfolding rounds_left reserved
rounds_left_is s = omega arith

-- ---- queueing an event takes one record

pub length_insert : (e : Held Event) (l : List (Held Event)) → length (insert e l) ≡ suc (length l)
length_insert e [] = refl
length_insert e (x ∷ l) =
    by_if
    (λ (m : List (Held Event)). length m ≡ suc (suc (length l)))
    (before e.value.moment (rank e.value.kind) x.value.moment (rank x.value.kind))
    refl
    (ap suc (length_insert e l))

-- one more is queued on its side
pub queued_push : (x : SideState) (c : Chain) (e : Held Event) → queued (with_queues x (with_queue x.queues c (insert e (queue x.queues c)))) ≡ suc (queued x)
queued_push x base e = omega (arith, length_insert e x.queues.base)
queued_push x blocking e = omega (arith, length_insert e x.queues.blocking)
queued_push x bypassable e = omega (arith, length_insert e x.queues.bypassable)
queued_push x internal e = omega (arith, length_insert e x.queues.internal)

pub used_put : (s : State) (e : Held Event) → used (put_event s e) ≡ suc (used s)
unfolding put_event
used_put s e =
    omega (arith, used_with s e.value.side (push_side (side s e.value.side) (chain_of e.value) e), queued_push (side s e.value.side) (chain_of e.value) e)

-- the free list plays no part in used
pub used_free : (s : State) (f : List ℕ) → used (with_free s f) ≡ used s
unfolding used
used_free s f = refl

-- a pushed event uses one record more, and reserves none
pub used_push : (s : State) (e : Event) → used (push_event s e) ≡ suc (used s)
unfolding push_event used
used_push s e = used_put (with_free s (tail s.free)) (in_record (free_place s.free) e)

pub reserved_put : (s : State) (e : Held Event) → reserved (put_event s e) ≡ reserved s
unfolding put_event
reserved_put s e = omega (arith, reserved_with s e.value.side (push_side (side s e.value.side) (chain_of e.value) e))

pub reserved_push : (s : State) (e : Event) → reserved (push_event s e) ≡ reserved s
unfolding push_event reserved
reserved_push s e = reserved_put (with_free s (tail s.free)) (in_record (free_place s.free) e)

-- R stays
pub room_push : (s : State) (e : Event) → (push_event s e).room ≡ s.room
unfolding push_event put_event
room_push s e = go e.side
  where
    t : State
    t = with_free s (tail s.free)

    go : (z : Side) → (with_side t z (push_side (side t z) (chain_of e) (in_record (free_place s.free) e))).room ≡ s.room
    go client = refl
    go server = refl

-- the aggregates stay
pub aggregates_put : (s : State) (e : Held Event) → (put_event s e).aggregates ≡ s.aggregates
unfolding put_event
aggregates_put s e = aggregates_with s e.value.side (push_side (side s e.value.side) (chain_of e.value) e)

pub aggregates_push : (s : State) (e : Event) → (push_event s e).aggregates ≡ s.aggregates
unfolding push_event
aggregates_push s e = aggregates_put (with_free s (tail s.free)) (in_record (free_place s.free) e)

-- ---- adding an aggregate takes one record

pub length_insert_aggregate : (a : Held Aggregate) (l : List (Held Aggregate)) → length (insert_aggregate a l) ≡ suc (length l)
length_insert_aggregate a [] = refl
length_insert_aggregate a (x ∷ l) =
    by_if
    (λ (m : List (Held Aggregate)). length m ≡ suc (suc (length l)))
    (ltb a.value.moment x.value.moment)
    refl
    (ap suc (length_insert_aggregate a l))

pub aggregates_add_one : (s : State) (a : Aggregate) → length (add_aggregate s a).aggregates ≡ suc (length s.aggregates)
unfolding add_aggregate
aggregates_add_one s a = length_insert_aggregate (in_record (free_place s.free) a) s.aggregates

pub used_add_one : (s : State) (a : Aggregate) → used (add_aggregate s a) ≡ suc (used s)
unfolding used add_aggregate
used_add_one s a = omega (arith, length_insert_aggregate (in_record (free_place s.free) a) s.aggregates)

pub reserved_add_one : (s : State) (a : Aggregate) → reserved (add_aggregate s a) ≡ reserved s
unfolding reserved add_aggregate
reserved_add_one s a = refl

-- each of a list adds one aggregate
pub aggregates_add : (s : State) (new : List Aggregate) → length (add_aggregates s new).aggregates ≡ length new + length s.aggregates
unfolding add_aggregates
aggregates_add s [] = omega arith
aggregates_add s (a ∷ new) = omega (arith, aggregates_add (add_aggregate s a) new, aggregates_add_one s a)

-- each of a list: one record used more, none reserved, one aggregate more
pub used_add : (s : State) (new : List Aggregate) → used (add_aggregates s new) ≡ used s + length new
unfolding add_aggregates
used_add s [] = omega arith
used_add s (a ∷ new) = omega (arith, used_add (add_aggregate s a) new, used_add_one s a)

pub reserved_add : (s : State) (new : List Aggregate) → reserved (add_aggregates s new) ≡ reserved s
unfolding add_aggregates
reserved_add s [] = refl
reserved_add s (a ∷ new) = omega (arith, reserved_add (add_aggregate s a) new, reserved_add_one s a)

-- the aggregates given anew
pub used_aggregates : (s : State) (l : List (Held Aggregate)) → used (with_aggregates s l) + length s.aggregates ≡ used s + length l
unfolding used
used_aggregates s l = omega arith

pub reserved_aggregates : (s : State) (l : List (Held Aggregate)) → reserved (with_aggregates s l) ≡ reserved s
unfolding reserved
reserved_aggregates s l = refl

-- the free list plays no part in reserved
pub reserved_free : (s : State) (f : List ℕ) → reserved (with_free s f) ≡ reserved s
unfolding reserved
reserved_free s f = refl

-- what happens to a side adds at most two aggregates
pub at_most_two : (d : ℕ) (z : Side) (at : ℕ) (o : Option ℕ) → length (aggregates_of d z at o) ≤ 2
unfolding aggregates_of
at_most_two d client at none = omega arith
at_most_two d server at none = omega arith
at_most_two d client at (some n) = omega arith
at_most_two d server at (some n) = omega arith

-- ---- a slot emptied, a chain without its first

pub held_cleared : {A : Type 0} (l : List (Option A)) (m : ℕ) {a : A} → get_or l m none ≡ some a → suc (held (set l m none)) ≡ held l
held_cleared [] m {a} h = absurd (none-ne-some a h)
held_cleared (none ∷ l) zero {a} h = absurd (none-ne-some a h)
held_cleared (some b ∷ l) zero h = omega arith
held_cleared (none ∷ l) (suc m) h = held_cleared l m h
held_cleared (some b ∷ l) (suc m) h = omega (arith, held_cleared l m h)

-- a list without its first is one shorter
pub length_tail : {A : Type 0} (l : List A) {a : A} → head? l ≡ some a → suc (length (tail l)) ≡ length l
length_tail [] {a} h = absurd (none-ne-some a h)
length_tail (x ∷ l) h = refl
