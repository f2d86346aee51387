-- The starred cases of document 01, in its order and words. Moments in ns; now is 100; delays are 0 unless said.
use Rattle.std.specs.Prelude.{List, [], ◌∷◌, map, ◌≡◌, refl, false, true, length}
use Rattle.std.proofs.Math.Option.{none, some}
use Rattle.rules.specs.State.{BlockOutgoing, with_free, Event}
use Rattle.rules.specs.Basics.{BlockingBegin, BlockingEnd, NormalSent, PaddingRecv, TimerEnd, TunnelSent, client, server}
use Rattle.rules.specs.Arguments.{Call, pick_next}
use Rattle.rules.specs.CallLists.{after_all}
use Rattle.rules.specs.CaseStates.{aggregate, an_event_in, blocked, fresh, nothing_in, open_delay, open_with, pending_in, plain, queued_in, rules, stamp_at, with_action, with_sums, with_timer}
use Rattle.rules.specs.Contents.{values}
use Rattle.rules.specs.Calls.{call}
use Rattle.rules.specs.NetworkStep.{packet}
use Rattle.rules.specs.Opening.{up_from}

pub record Starred : Type 0 where
  -- Empty: nothing left, 1 round.
  pub empty : call fresh (pick_next 100) ≡ nothing_in 1 fresh
  -- Aggregates at 50 and 60 only: nothing left, 3 rounds, sums raised.
  pub aggregates :
      call (pending_in (pending_in fresh (aggregate 50 7 client)) (aggregate 60 8 server)) (pick_next 100)
      ≡ nothing_in 3 (with_free (with_sums fresh 7 8) (2 ∷ 1 ∷ up_from 3 98))
  -- Both blocks end at 90, no events: server `BlockingEnd` at 100, 1 round.
  pub both_blocks :
      call (blocked (blocked fresh client 90 false) server 90 false) (pick_next 100)
      ≡ an_event_in (plain BlockingEnd 100 server 0) 1 (blocked fresh client 90 false)
  -- Timers at 100, server machine 0 and client machine 1: the client's, 2 rounds.
  pub timers :
      call (with_timer (with_timer fresh server 0 100) client 1 100) (pick_next 100)
      ≡ an_event_in (plain TimerEnd 100 client 1) 2 (with_timer fresh server 0 100)
  -- Timer at 99 only: nothing left, timer kept.
  pub past_timer : call (with_timer fresh client 0 99) (pick_next 100) ≡ nothing_in 1 (with_timer fresh client 0 99)
  -- Client block action at 100, duration 0, no replace: `BlockingBegin` at 100, no block, 2 rounds.
  pub no_blocks :
      call (with_action fresh client 0 (record { kind = BlockOutgoing; moment = 100; duration = 0; bypass = false; replace = false })) (pick_next 100)
      ≡ an_event_in (plain BlockingBegin 100 client 0) 2 fresh
  -- Client blocked to 150, not bypassable, network delay 20, one client `TunnelSent` at 100: `BlockingEnd` at 150; aggregates of 50 at 180
  -- (client) and 160 (server).
  pub held_packet :
      call (queued_in (blocked (open_delay 20) client 150 false) (plain TunnelSent 100 client 0)) (pick_next 100)
      ≡ an_event_in (plain BlockingEnd 150 client 0) 1
      (pending_in (pending_in (queued_in (open_delay 20) (plain TunnelSent 100 client 0)) (aggregate 180 50 client)) (aggregate 160 50 server))
  -- The same with bypassable block and bypass flag: the packet at 100.
  pub passing_packet :
      call (queued_in (blocked (open_delay 20) client 150 true) (packet TunnelSent 100 0 client false true false)) (pick_next 100)
      ≡ an_event_in (packet TunnelSent 100 0 client false true false) 1 (blocked (open_delay 20) client 150 true)
  -- Window 10, stamps at 100, 110, 111: counts 1, 2, 2.
  pub counts :
      map
      (λ (l : List Call). length (after_all (open_with 0 none 10) l).client.stamps)
      ((stamp_at 100 ∷ []) ∷ (stamp_at 100 ∷ stamp_at 110 ∷ []) ∷ (stamp_at 100 ∷ stamp_at 110 ∷ stamp_at 111 ∷ []) ∷ [])
      ≡ 1 ∷ 2 ∷ 2 ∷ []
  -- Window 10^9, rate 3, count 5: extra 666,666,666. Five steps at 100, and the moments at which the server receives them: counts 4 and 5 are
  -- above the limit.
  pub extra :
      map
      (λ (e : Event). e.moment)
      (values (after_all (open_with 0 (some 3) 1_000_000_000) (stamp_at 100 ∷ stamp_at 100 ∷ stamp_at 100 ∷ stamp_at 100 ∷ stamp_at 100 ∷ [])).server.queues.internal)
      ≡ 100 ∷ 100 ∷ 100 ∷ 333_333_433 ∷ 666_666_766 ∷ []
  -- Client base at 100, sum 5, client `PaddingRecv` at 105: base, moment 105.
  pub base_first :
      call (queued_in (queued_in (with_sums fresh 5 0) (plain PaddingRecv 105 client 0)) (plain NormalSent 100 client 0)) (pick_next 100)
      ≡ an_event_in (plain NormalSent 105 client 0) 1 (queued_in (with_sums fresh 5 0) (plain PaddingRecv 105 client 0))

-- each holds by computation
pub starred : Starred
unfolding rules
starred = record {
  empty = refl;
  aggregates = refl;
  both_blocks = refl;
  timers = refl;
  past_timer = refl;
  no_blocks = refl;
  held_packet = refl;
  passing_packet = refl;
  counts = refl;
  extra = refl;
  base_first = refl;
}
