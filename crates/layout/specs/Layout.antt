-- The lent words read as a state of the rules: docs/LAYOUT.md as definitions, line by line. Any words are read; which of them are a state says Accepted.
-- Assumes nothing.
use Rattle.std.specs.Prelude.{ℕ, zero, suc, ◌+◌, ◌*◌, ◌/◌, ◌%◌, List, [], ◌∷◌, map, ltb, eqb, length, get_or, take, drop, if◌then◌else◌}
use Rattle.std.proofs.Math.Option.{Option, none, some}
use Rattle.rules.specs.Basics.{Side, client, server}
use Rattle.rules.specs.State.{Event, Action, ActionKind, SendPadding, BlockOutgoing, Aggregate, Held, in_record, SideState, State}
use Rattle.queue_event.specs.Chain.{Rec, Node, nodes}
use Rattle.queue_event.specs.Tag.{kind_field, padding_field, bypass_field, replace_field, side_field, machine_field, flag}
use Rattle.event.specs.Values.{kind_at}
use Rattle.layout.specs.Records.{chain_count, head_of, count_of}

-- ---- values from words

-- a block end, a timer: "0 for none, else its moment + 1"
abbrev pub less_one : ℕ → Option ℕ
less_one zero = none
less_one (suc n) = some n

-- a rate: "0 for absent"
abbrev pub unless_zero : ℕ → Option ℕ
unless_zero zero = none
unless_zero (suc n) = some (suc n)

-- "A side is 0 for the client and 1 for the server."
abbrev pub side_at : ℕ → Side
side_at zero = client
side_at (suc n) = server

-- "kind 1 for `SendPadding` and 2 for `BlockOutgoing`"
abbrev pub action_kind_at : ℕ → ActionKind
action_kind_at n = if eqb n 1 then SendPadding else BlockOutgoing

-- an action's three words: "kind + 4 bypass + 8 replace", moment, duration; "An empty slot is three zero words."
unfoldable pub action_from : ℕ → ℕ → ℕ → Option Action
action_from zero m d = none
action_from (suc n) m d =
    some (record { kind = action_kind_at (suc n % 4); moment = m; duration = d; bypass = flag (suc n / 4 % 2); replace = flag (suc n / 8 % 2) })

-- ---- values from records

-- an event of side z: "an event's side is its chain's", "Length is the integration delay of an event"
unfoldable pub event_from : Side → Rec → Event
event_from z r =
    record {
      kind = kind_at (kind_field r.tag);
      moment = r.moment;
      delay = r.size;
      side = z;
      padding = flag (padding_field r.tag);
      bypass = flag (bypass_field r.tag);
      replace = flag (replace_field r.tag);
      machine = machine_field r.tag;
    }

-- an aggregate: Length is "the length of an aggregate", and the tag has its side
unfoldable pub aggregate_from : Rec → Aggregate
aggregate_from r = record { moment = r.moment; length = r.size; side = side_at (side_field r.tag) }

-- with the numbers of their records; a stamp is its moment, and of a free record there is its number alone
abbrev pub held_event : Side → Node → Held Event
held_event z x = in_record x.at (event_from z x.rec)

abbrev pub held_aggregate : Node → Held Aggregate
held_aggregate x = in_record x.at (aggregate_from x.rec)

abbrev pub held_stamp : Node → Held ℕ
held_stamp x = in_record x.at x.rec.moment

abbrev pub place_of : Node → ℕ
place_of x = x.at

-- ---- the header: banks of words, and the chains by number

-- the n words of the header from word b on; 0 past them, so that two banks with the same words are equal
unfoldable pub bank : ℕ → ℕ → List ℕ → ℕ → ℕ
bank b n h i = if ltb i n then get_or h (b + i) 0 else 0

-- "24 + 2k, 25 + 2k | head and count of chain k": what chain k holds, from its head; nothing past the last chain
unfoldable pub chains : List ℕ → List ℕ → ℕ → List Node
chains h rs k = if ltb k chain_count then nodes rs (count_of h k) (head_of h k) else []

-- the first n values
abbrev pub firsts : {A : Type 0} → ℕ → (ℕ → A) → List A
firsts zero f = []
firsts (suc n) f = f 0 ∷ firsts n (λ (i : ℕ). f (suc i))

-- ---- the state: from the words 0 to 23, the timers', the actions', the chains and R

-- "64 + 16 side + m | timer of machine m"
abbrev pub timers_from : ℕ → (ℕ → ℕ) → List (Option ℕ)
timers_from n t = firsts 16 (λ (m : ℕ). less_one (t (16 * n + m)))

-- "96 + 3 (16 side + m), and the two words after it | action of machine m"
abbrev pub actions_from : ℕ → (ℕ → ℕ) → List (Option Action)
actions_from n a = firsts 16 (λ (m : ℕ). action_from (a (3 * (16 * n + m))) (a (1 + 3 * (16 * n + m))) (a (2 + 3 * (16 * n + m))))

-- side z, of number n: "4 + side | action delay", "6 + side | reporting delay", "8 + side | machines of the side", "10 + side | sum of the side", "12 + side |
-- 0 where the side has no block, else the block's end + 1", "14 + side | bypassable flag"; of the chains "1, 2, 3, 4, 5 | client base, blocking, bypassable,
-- internal, stamps", "6, 7, 8, 9, 10 | server base, blocking, bypassable, internal, stamps". Sixteen slots each
abbrev pub side_from : Side → ℕ → (ℕ → ℕ) → (ℕ → ℕ) → (ℕ → ℕ) → (ℕ → List Node) → SideState
side_from z n f t a c =
    record {
      fixed = record { action_delay = f (4 + n); reporting_delay = f (6 + n); machines = f (8 + n) };
      sum = f (10 + n);
      block_end = less_one (f (12 + n));
      block_bypassable = flag (f (14 + n));
      queues =
          record {
            base = map (held_event z) (c (1 + 5 * n));
            blocking = map (held_event z) (c (2 + 5 * n));
            bypassable = map (held_event z) (c (3 + 5 * n));
            internal = map (held_event z) (c (4 + 5 * n));
          };
      stamps = map held_stamp (c (5 + 5 * n));
      timers = timers_from n t;
      actions = actions_from n a;
    }

-- "0 | network delay", "1 | network rate", "2 | queue rate", "3 | window", "16 | ended mark", "17 | round total"; of the chains "11 | pending aggregates" and
-- "0 | free records"
abbrev pub build : (ℕ → ℕ) → (ℕ → ℕ) → (ℕ → ℕ) → (ℕ → List Node) → ℕ → State
build f t a c r =
    record {
      settings = record { network_delay = f 0; network_rate = unless_zero (f 1); queue_rate = unless_zero (f 2); window = f 3 };
      client = side_from client 0 f t a c;
      server = side_from server 1 f t a c;
      aggregates = map held_aggregate (c 11);
      free = map place_of (c 0);
      ended = flag (f 16);
      rounds = f 17;
      room = r;
    }

-- from a header of 256 words and the records after it, four words each
unfoldable pub state_from : List ℕ → List ℕ → State
state_from h rs = build (bank 0 24 h) (bank 64 32 h) (bank 96 96 h) (chains h rs) (length rs / 4)

-- the state that the lent words hold
abbrev pub state_of : List ℕ → State
state_of w = state_from (take 256 w) (drop 256 w)
