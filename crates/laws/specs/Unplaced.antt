-- Record numbers dropped: a state with every place 0 and none free, and how queueing and adding go with that.
use Rattle.std.specs.Prelude.{suc, ◌+◌, ◌≡◌, refl, ltb, length}
use Rattle.std.proofs.Common.{sym, ap, ◌∙◌, arith}
use mathlib.Core.List.{List, [], ◌∷◌, ◌++◌, tail}
use Rattle.rules.specs.Basics.{before, rank, Side, client, server}
use Rattle.rules.specs.State.{Event, Held, in_record, Aggregate, Chain, base, blocking, bypassable, internal, SideState, State, with_queue, with_queues, side, with_side, with_aggregates, with_free, free_place, queued, used, reserved, rounds_left}
use Rattle.rules.specs.Queueing.{insert, push_side, put_event, push_event, chain_of}
use Rattle.rules.specs.Aggregates.{insert_aggregate, add_aggregate, add_aggregates}
use Rattle.laws.specs.Branches.{if_both}

-- of what stands in a chain
abbrev pub unplaced : {A : Type 0} → Held A → Held A
unplaced h = in_record 0 h.value

-- of a chain
abbrev pub unplaced_list : {A : Type 0} → List (Held A) → List (Held A)
unplaced_list [] = []
unplaced_list (x ∷ l) = in_record 0 x.value ∷ unplaced_list l

-- of a side
abbrev pub unplaced_side : SideState → SideState
unplaced_side x =
    record {
      fixed = x.fixed;
      sum = x.sum;
      block_end = x.block_end;
      block_bypassable = x.block_bypassable;
      queues = record { base = unplaced_list x.queues.base; blocking = unplaced_list x.queues.blocking; bypassable = unplaced_list x.queues.bypassable; internal = unplaced_list x.queues.internal };
      stamps = unplaced_list x.stamps;
      timers = x.timers;
      actions = x.actions;
    }

-- of the state
abbrev pub unplaced_state : State → State
unplaced_state s =
    record {
      settings = s.settings;
      client = unplaced_side s.client;
      server = unplaced_side s.server;
      aggregates = unplaced_list s.aggregates;
      free = [];
      ended = s.ended;
      rounds = s.rounds;
      room = s.room;
    }

-- the two states differ in record numbers alone
abbrev pub Alike : State → State → Type 0
Alike s t = unplaced_state s ≡ unplaced_state t

-- ---- lists

-- dropped twice is dropped once
pub unplaced_twice : {A : Type 0} (l : List (Held A)) → unplaced_list (unplaced_list l) ≡ unplaced_list l
unplaced_twice [] = refl
unplaced_twice (x ∷ l) = ap (λ m. in_record 0 x.value ∷ m) (unplaced_twice l)

-- a chain keeps its length, its order without its first, and is joined as before
pub unplaced_length : {A : Type 0} (l : List (Held A)) → length (unplaced_list l) ≡ length l
unplaced_length [] = refl
unplaced_length (x ∷ l) = ap suc (unplaced_length l)

pub unplaced_tail : {A : Type 0} (l : List (Held A)) → unplaced_list (tail l) ≡ tail (unplaced_list l)
unplaced_tail [] = refl
unplaced_tail (x ∷ l) = refl

pub unplaced_append : {A : Type 0} (l m : List (Held A)) → unplaced_list (l ++ m) ≡ unplaced_list l ++ unplaced_list m
unplaced_append [] m = refl
unplaced_append (x ∷ l) m = ap (λ n. in_record 0 x.value ∷ n) (unplaced_append l m)

-- ---- the parts of a side

pub side_unplaced : (s : State) (z : Side) → side (unplaced_state s) z ≡ unplaced_side (side s z)
side_unplaced s client = refl
side_unplaced s server = refl

-- a side given anew
pub with_unplaced : (s : State) (z : Side) (x : SideState) → unplaced_state (with_side s z x) ≡ with_side (unplaced_state s) z (unplaced_side x)
with_unplaced s client x = refl
with_unplaced s server x = refl

-- dropped twice is dropped once
pub unplaced_state_twice : (s : State) → unplaced_state (unplaced_state s) ≡ unplaced_state s
unplaced_state_twice s = λ d. record {
  settings = s.settings;
  client = twice s.client d;
  server = twice s.server d;
  aggregates = unplaced_twice s.aggregates d;
  free = [];
  ended = s.ended;
  rounds = s.rounds;
  room = s.room;
}
  where
    twice : (x : SideState) → unplaced_side (unplaced_side x) ≡ unplaced_side x
    twice x = λ d. record {
      fixed = x.fixed;
      sum = x.sum;
      block_end = x.block_end;
      block_bypassable = x.block_bypassable;
      queues = record { base = unplaced_twice x.queues.base d; blocking = unplaced_twice x.queues.blocking d; bypassable = unplaced_twice x.queues.bypassable d; internal = unplaced_twice x.queues.internal d };
      stamps = unplaced_twice x.stamps d;
      timers = x.timers;
      actions = x.actions;
    }

-- a state that becomes the other by forgetting is alike
pub settled : (s t : State) → unplaced_state s ≡ t → Alike s t
settled s t h = sym (unplaced_state_twice s) ∙ ap unplaced_state h

-- ---- an event queued

insert_unplaced : (e : Held Event) (l : List (Held Event)) → unplaced_list (insert e l) ≡ insert (unplaced e) (unplaced_list l)
insert_unplaced e [] = refl
insert_unplaced e (x ∷ l) =
    sym
    (if_both
    unplaced_list
    (before e.value.moment (rank e.value.kind) x.value.moment (rank x.value.kind))
    refl
    (ap (λ m. in_record 0 x.value ∷ m) (sym (insert_unplaced e l))))

push_side_unplaced : (x : SideState) (c : Chain) (e : Held Event) → unplaced_side (push_side x c e) ≡ push_side (unplaced_side x) c (unplaced e)
push_side_unplaced x base e = ap (λ l. with_queues (unplaced_side x) (with_queue (unplaced_side x).queues base l)) (insert_unplaced e x.queues.base)
push_side_unplaced x blocking e = ap (λ l. with_queues (unplaced_side x) (with_queue (unplaced_side x).queues blocking l)) (insert_unplaced e x.queues.blocking)
push_side_unplaced x bypassable e = ap (λ l. with_queues (unplaced_side x) (with_queue (unplaced_side x).queues bypassable l)) (insert_unplaced e x.queues.bypassable)
push_side_unplaced x internal e = ap (λ l. with_queues (unplaced_side x) (with_queue (unplaced_side x).queues internal l)) (insert_unplaced e x.queues.internal)

-- an event that has its record
pub put_unplaced : (s : State) (e : Held Event) → unplaced_state (put_event s e) ≡ put_event (unplaced_state s) (unplaced e)
unfolding put_event
put_unplaced s e = go e.value.side
  where
    go : (z : Side) → unplaced_state (with_side s z (push_side (side s z) (chain_of e.value) e)) ≡ with_side (unplaced_state s) z (push_side (side (unplaced_state s) z) (chain_of e.value) (unplaced e))
    go client = ap (with_side (unplaced_state s) client) (push_side_unplaced s.client (chain_of e.value) e)
    go server = ap (with_side (unplaced_state s) server) (push_side_unplaced s.server (chain_of e.value) e)

-- a new event
pub push_unplaced : (s : State) (e : Event) → unplaced_state (push_event s e) ≡ push_event (unplaced_state s) e
unfolding push_event
push_unplaced s e = put_unplaced (with_free s (tail s.free)) (in_record (free_place s.free) e)

-- ---- aggregates added

insert_aggregate_unplaced : (a : Held Aggregate) (l : List (Held Aggregate)) → unplaced_list (insert_aggregate a l) ≡ insert_aggregate (unplaced a) (unplaced_list l)
insert_aggregate_unplaced a [] = refl
insert_aggregate_unplaced a (x ∷ l) =
    sym
    (if_both
    unplaced_list
    (ltb a.value.moment x.value.moment)
    refl
    (ap (λ m. in_record 0 x.value ∷ m) (sym (insert_aggregate_unplaced a l))))

add_one_unplaced : (s : State) (a : Aggregate) → unplaced_state (add_aggregate s a) ≡ add_aggregate (unplaced_state s) a
unfolding add_aggregate
add_one_unplaced s a = ap (with_aggregates (unplaced_state s)) (insert_aggregate_unplaced (in_record (free_place s.free) a) s.aggregates)

-- aggregates added
pub add_unplaced : (s : State) (new : List Aggregate) → unplaced_state (add_aggregates s new) ≡ add_aggregates (unplaced_state s) new
unfolding add_aggregates
add_unplaced s [] = refl
add_unplaced s (a ∷ new) = add_unplaced (add_aggregate s a) new ∙ ap (λ t. add_aggregates t new) (add_one_unplaced s a)

-- ---- counts

queued_unplaced : (x : SideState) → queued (unplaced_side x) ≡ queued x
queued_unplaced x = λ d. unplaced_length x.queues.base d + unplaced_length x.queues.blocking d + unplaced_length x.queues.bypassable d + unplaced_length x.queues.internal d

-- used, reserved and A + 3B + T + 4S read no place
pub used_unplaced : (s : State) → used (unplaced_state s) ≡ used s
unfolding used
used_unplaced s = λ d. (queued_unplaced s.client d + unplaced_length s.client.stamps d) + (queued_unplaced s.server d + unplaced_length s.server.stamps d) + unplaced_length s.aggregates d

pub reserved_unplaced : (s : State) → reserved (unplaced_state s) ≡ reserved s
unfolding reserved
reserved_unplaced s = refl

pub rounds_left_unplaced : (s : State) → rounds_left (unplaced_state s) ≡ rounds_left s
unfolding rounds_left
rounds_left_unplaced s = omega (arith, unplaced_length s.aggregates)
