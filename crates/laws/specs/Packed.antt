-- Laws of packing (document 02, M-100): it keeps what a state holds, and two states pack to one exactly when they hold the same.
use Rattle.std.specs.Prelude.{ℕ, suc, ◌+◌, ◌-◌, ◌≡◌, refl, List, [], ◌∷◌, length}
use Rattle.std.proofs.Common.{sym, ap, ◌∙◌}
use Rattle.rules.specs.State.{Held, in_record, Chain, base, blocking, bypassable, internal, queue, SideState, State, queued, side_used, used}
use Rattle.rules.specs.Contents.{values, SideAgrees, Agree}
use Rattle.rules.specs.Opening.{up_from}
use Rattle.rules.specs.Packing.{numbered, packed_side, packed}
use Rattle.laws.specs.Unplaced.{unplaced_list, unplaced_side, unplaced_state, Alike}

-- ---- a chain

-- these values in the records from p on
abbrev placed_from : {A : Type 0} → ℕ → List A → List (Held A)
placed_from p [] = []
placed_from p (x ∷ l) = in_record p x ∷ placed_from (suc p) l

-- these values, each in record 0
abbrev placed_nowhere : {A : Type 0} → List A → List (Held A)
placed_nowhere [] = []
placed_nowhere (x ∷ l) = in_record 0 x ∷ placed_nowhere l

-- numbering, forgetting numbers and the length read the values alone
numbered_reads : {A : Type 0} (p : ℕ) (l : List (Held A)) → numbered p l ≡ placed_from p (values l)
numbered_reads p [] = refl
numbered_reads p (x ∷ l) = ap (λ m. in_record p x.value ∷ m) (numbered_reads (suc p) l)

unplaced_reads : {A : Type 0} (l : List (Held A)) → unplaced_list l ≡ placed_nowhere (values l)
unplaced_reads [] = refl
unplaced_reads (x ∷ l) = ap (λ m. in_record 0 x.value ∷ m) (unplaced_reads l)

length_reads : {A : Type 0} (l : List (Held A)) → length l ≡ length (values l)
length_reads [] = refl
length_reads (x ∷ l) = ap suc (length_reads l)

-- so they are the same of chains with the same values
pub numbered_same : {A : Type 0} (p q : ℕ) (l m : List (Held A)) → p ≡ q → values l ≡ values m → numbered p l ≡ numbered q m
numbered_same p q l m e v = numbered_reads p l ∙ (λ d. placed_from (e d) (v d)) ∙ sym (numbered_reads q m)

pub unplaced_same : {A : Type 0} (l m : List (Held A)) → values l ≡ values m → unplaced_list l ≡ unplaced_list m
unplaced_same l m v = unplaced_reads l ∙ ap placed_nowhere v ∙ sym (unplaced_reads m)

pub length_same : {A : Type 0} (l m : List (Held A)) → values l ≡ values m → length l ≡ length m
length_same l m v = length_reads l ∙ ap length v ∙ sym (length_reads m)

-- and both keep the values
pub values_numbered : {A : Type 0} (p : ℕ) (l : List (Held A)) → values (numbered p l) ≡ values l
values_numbered p [] = refl
values_numbered p (x ∷ l) = ap (λ m. x.value ∷ m) (values_numbered (suc p) l)

values_unplaced : {A : Type 0} (l : List (Held A)) → values (unplaced_list l) ≡ values l
values_unplaced [] = refl
values_unplaced (x ∷ l) = ap (λ m. x.value ∷ m) (values_unplaced l)

-- chains that are alike have the same values
values_same : {A : Type 0} (l m : List (Held A)) → unplaced_list l ≡ unplaced_list m → values l ≡ values m
values_same l m h = sym (values_unplaced l) ∙ ap values h ∙ values_unplaced m

-- ---- a side

side_packed : (p : ℕ) (x : SideState) → SideAgrees (packed_side p x) x
side_packed p x = record { settings = refl; timers = refl; actions = refl; sum = refl; block_end = refl; flag = refl; events = chain; stamps = values_numbered _ x.stamps }
  where
    chain : (c : Chain) → values (queue (packed_side p x).queues c) ≡ values (queue x.queues c)
    chain base = values_numbered _ x.queues.base
    chain blocking = values_numbered _ x.queues.blocking
    chain bypassable = values_numbered _ x.queues.bypassable
    chain internal = values_numbered _ x.queues.internal

-- sides that agree: their lengths, their packed forms in the same records, and they themselves but for the numbers of records
module _ (x y : SideState) (a : SideAgrees x y) where
  chain_length : (c : Chain) → length (queue x.queues c) ≡ length (queue y.queues c)
  chain_length c = length_same (queue x.queues c) (queue y.queues c) (a.events c)

  queued_same : queued x ≡ queued y
  queued_same = λ d. chain_length base d + chain_length blocking d + chain_length bypassable d + chain_length internal d

  side_used_same : side_used x ≡ side_used y
  side_used_same = λ d. queued_same d + length_same x.stamps y.stamps a.stamps d

  side_same : (p q : ℕ) → p ≡ q → packed_side p x ≡ packed_side q y
  side_same p q e = λ d. record {
    fixed = a.settings d;
    sum = a.sum d;
    block_end = a.block_end d;
    block_bypassable = a.flag d;
    queues =
        record {
          base = numbered_same p q x.queues.base y.queues.base e (a.events base) d;
          blocking = numbered_same _ _ x.queues.blocking y.queues.blocking (λ c. e c + chain_length base c) (a.events blocking) d;
          bypassable =
              numbered_same _ _ x.queues.bypassable y.queues.bypassable (λ c. e c + chain_length base c + chain_length blocking c) (a.events bypassable) d;
          internal =
              numbered_same _ _ x.queues.internal y.queues.internal
              (λ c. e c + chain_length base c + chain_length blocking c + chain_length bypassable c) (a.events internal) d;
        };
    stamps = numbered_same _ _ x.stamps y.stamps (λ c. e c + queued_same c) a.stamps d;
    timers = a.timers d;
    actions = a.actions d;
  }

  side_alike : unplaced_side x ≡ unplaced_side y
  side_alike = λ d. record {
    fixed = a.settings d;
    sum = a.sum d;
    block_end = a.block_end d;
    block_bypassable = a.flag d;
    queues =
        record {
          base = unplaced_same x.queues.base y.queues.base (a.events base) d;
          blocking = unplaced_same x.queues.blocking y.queues.blocking (a.events blocking) d;
          bypassable = unplaced_same x.queues.bypassable y.queues.bypassable (a.events bypassable) d;
          internal = unplaced_same x.queues.internal y.queues.internal (a.events internal) d;
        };
    stamps = unplaced_same x.stamps y.stamps a.stamps d;
    timers = a.timers d;
    actions = a.actions d;
  }

-- and back
side_agrees : (x y : SideState) → unplaced_side x ≡ unplaced_side y → SideAgrees x y
side_agrees x y h = record {
  settings = ap (λ z. z.fixed) h;
  timers = ap (λ z. z.timers) h;
  actions = ap (λ z. z.actions) h;
  sum = ap (λ z. z.sum) h;
  block_end = ap (λ z. z.block_end) h;
  flag = ap (λ z. z.block_bypassable) h;
  events = chain;
  stamps = values_same x.stamps y.stamps (ap (λ z. z.stamps) h);
}
  where
    chain : (c : Chain) → values (queue x.queues c) ≡ values (queue y.queues c)
    chain base = values_same x.queues.base y.queues.base (ap (λ z. z.queues.base) h)
    chain blocking = values_same x.queues.blocking y.queues.blocking (ap (λ z. z.queues.blocking) h)
    chain bypassable = values_same x.queues.bypassable y.queues.bypassable (ap (λ z. z.queues.bypassable) h)
    chain internal = values_same x.queues.internal y.queues.internal (ap (λ z. z.queues.internal) h)

-- ---- the state

-- states with one R agree exactly when they differ in record numbers alone
pub agree_alike : (s t : State) → Agree s t → s.room ≡ t.room → Alike s t
agree_alike s t a r = λ d. record {
  settings = a.settings d;
  client = side_alike s.client t.client a.client d;
  server = side_alike s.server t.server a.server d;
  aggregates = unplaced_same s.aggregates t.aggregates a.aggregates d;
  free = [];
  ended = a.ended d;
  rounds = a.rounds d;
  room = r d;
}

pub alike_agree : (s t : State) → Alike s t → Agree s t
alike_agree s t h = record {
  settings = ap (λ z. z.settings) h;
  client = side_agrees s.client t.client (ap (λ z. z.client) h);
  server = side_agrees s.server t.server (ap (λ z. z.server) h);
  aggregates = values_same s.aggregates t.aggregates (ap (λ z. z.aggregates) h);
  ended = ap (λ z. z.ended) h;
  rounds = ap (λ z. z.rounds) h;
}

-- ---- packing

pub packed_keeps : (s : State) → Agree (packed s) s
unfolding packed
packed_keeps s = record {
  settings = refl;
  client = side_packed _ s.client;
  server = side_packed _ s.server;
  aggregates = values_numbered _ s.aggregates;
  ended = refl;
  rounds = refl;
}

pub packed_room : (s : State) → (packed s).room ≡ s.room
unfolding packed
packed_room s = refl

pub packed_alike : (s : State) → Alike (packed s) s
packed_alike s = agree_alike (packed s) s (packed_keeps s) (packed_room s)

pub agree_packed : (s t : State) → Agree s t → s.room ≡ t.room → packed s ≡ packed t
unfolding packed used
agree_packed s t a r = λ d. record {
  settings = a.settings d;
  client = side_same s.client t.client a.client 1 1 refl d;
  server = side_same s.server t.server a.server _ _ (λ c. 1 + client c) d;
  aggregates = numbered_same _ _ s.aggregates t.aggregates (λ c. 1 + client c + server c) a.aggregates d;
  free = up_from (1 + (client d + server d + aggregates d)) (r d - (client d + server d + aggregates d));
  ended = a.ended d;
  rounds = a.rounds d;
  room = r d;
}
  where
    client : side_used s.client ≡ side_used t.client
    client = side_used_same s.client t.client a.client

    server : side_used s.server ≡ side_used t.server
    server = side_used_same s.server t.server a.server

    aggregates : length s.aggregates ≡ length t.aggregates
    aggregates = length_same s.aggregates t.aggregates a.aggregates

pub packed_agrees : (s t : State) → packed s ≡ packed t → Agree s t
packed_agrees s t e = alike_agree s t (sym (packed_alike s) ∙ ap unplaced_state e ∙ packed_alike t)

pub packed_packed : (s : State) → packed (packed s) ≡ packed s
packed_packed s = agree_packed (packed s) s (packed_keeps s) (packed_room s)
