-- Document 02, M-100: small states and their packed forms. The Rust has none: the values are document 02's.
use Rattle.std.specs.Prelude.{ℕ, ◌≡◌, refl, true, false, [], ◌∷◌}
use Rattle.std.proofs.Math.Option.{none}
use Rattle.rules.specs.Basics.{NormalSent, PaddingRecv, Side, TimerEnd, TunnelSent, client, server}
use Rattle.rules.specs.State.{Event, Fixed, State, in_record, side, with_aggregates, with_ended, with_free, with_queues, with_rounds, with_side, with_stamps}
use Rattle.rules.specs.NetworkStep.{packet}
use Rattle.rules.specs.Opening.{opened, up_from}
use Rattle.rules.specs.Packing.{packed}
use Rattle.rules.specs.CaseStates.{aggregate, fresh, plain, queued_in, rules}

-- ---- what they begin from

abbrev one_machine : Fixed
one_machine = record { action_delay = 0; reporting_delay = 0; machines = 1 }

-- opened with a window of 10 and one machine a side, over 268 words: three records
abbrev three : State
three =
    opened
    (record {
      settings = record { network_delay = 0; network_rate = none; queue_rate = none; window = 10 };
      client = one_machine;
      server = one_machine;
    })
    268

abbrev timer_end : Event
timer_end = plain TimerEnd 50 server 0

abbrev packet_sent : Event
packet_sent = plain NormalSent 100 client 0

-- a server event pushed first, then a client one: records 1 and 2
abbrev server_first : State
server_first = queued_in (queued_in three timer_end) packet_sent

-- one value in each chain of a side, in the records named
abbrev one_in_each : State → Side → ℕ → ℕ → ℕ → ℕ → ℕ → State
one_in_each s z p q r t u =
    with_side s z
    (with_stamps
    (with_queues (side s z)
    (record {
      base = in_record p (plain NormalSent 10 z 0) ∷ [];
      blocking = in_record q (plain TunnelSent 20 z 0) ∷ [];
      bypassable = in_record r (packet TunnelSent 30 0 z false true false) ∷ [];
      internal = in_record t (plain PaddingRecv 40 z 0) ∷ [];
    }))
    (in_record u 50 ∷ []))

-- one in each of the ten, two aggregates, and of the 100 records the other 88 free
abbrev in_every_chain : State
in_every_chain =
    with_free
    (with_aggregates (one_in_each (one_in_each fresh client 12 3 9 5 10) server 7 2 4 11 1)
    (in_record 8 (aggregate 60 1 client) ∷ in_record 6 (aggregate 70 2 server) ∷ []))
    (100 ∷ up_from 13 87)

pub record Packings : Type 0 where
  -- "chains in a fixed order, records numbered upward from 1": the client's event gets record 1, the server's 2
  pub client_first : (packed server_first).client.queues.base ≡ in_record 1 packet_sent ∷ []
  pub server_next : (packed server_first).server.queues.internal ≡ in_record 2 timer_end ∷ []
  -- "free records [..] chained upward"
  pub free_last : (packed server_first).free ≡ 3 ∷ []
  -- so it is the state in which the client's was pushed first
  pub other_order : packed server_first ≡ queued_in (queued_in three packet_sent) timer_end
  -- as opening leaves it, a state is packed; in a full block no record is free
  pub empty : packed three ≡ three
  pub full : (packed (queued_in server_first (plain NormalSent 200 client 0))).free ≡ []
  -- base, blocking, bypassable, internal, stamps of the client, of the server, then the aggregates, then the free records, whatever their order was
  pub every_chain :
      packed in_every_chain
      ≡ with_free
      (with_aggregates (one_in_each (one_in_each fresh client 1 2 3 4 5) server 6 7 8 9 10)
      (in_record 11 (aggregate 60 1 client) ∷ in_record 12 (aggregate 70 2 server) ∷ []))
      (up_from 13 88)
  -- an ended state packs: the ended mark and the round total stay
  pub ended : packed (with_rounds (with_ended three true) 5) ≡ with_rounds (with_ended three true) 5

-- each holds by computation
pub packings : Packings
unfolding rules packed
packings = record {
  client_first = refl;
  server_next = refl;
  free_last = refl;
  other_order = refl;
  empty = refl;
  full = refl;
  every_chain = refl;
  ended = refl;
}
