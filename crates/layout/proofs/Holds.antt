-- Accepted words hold an accepted state: what the laws of the rules ask of a state is true of what the words hold. Assumes nothing.
use Prim.Native.Nat.{ℕ, ◌≤◌, ◌<◌, ◌/◌}
use mathlib.Core.Path.{◌≡◌, refl, ◌∙◌}
use mathlib.Core.List.{List}
use native.Mathlib.Omega.{arith}
use lib.Dec.{lit<}
use lib.ListN.{length, get_or, take, drop, length-drop}
use Rattle.rules.specs.Basics.{client, server}
use Rattle.rules.specs.State.{Chain, base, blocking, bypassable, internal, queue}
use Rattle.laws.specs.Accepted.{SettingsOk, Whole, Accepted as AcceptedState}
use Rattle.laws.specs.Sound.{ChainOk as ChainFits, SideOk, Sound}
use Rattle.queue_event.specs.Chain.{nodes}
use Rattle.layout.specs.Header.{limits}
use Rattle.layout.specs.Records.{chain_count, head_of, count_of}
use Rattle.layout.specs.Accepted.{Good, Accepted, room}
use Rattle.layout.specs.Layout.{bank, chains, state_from, state_of}
use Rattle.layout.proofs.Counts.{used_is, length_map, length_nodes}
use Rattle.layout.proofs.ChainWords.{count_le}
use Rattle.layout.proofs.HoldsChains.{chain_fits, stamps_fit, aggregates_fit, aggregates_order}
use Rattle.layout.proofs.HoldsSlots.{rate_fits, end_fits, timers_fit, actions_fit}
use Rattle.layout.proofs.HoldsOnce.{state_once}

module _ (h rs : List ℕ) (g : Good h rs) where
  -- a word of the first eighteen
  low : (i : ℕ) → i < 18 → get_or h i 0 ≤ get_or limits i 0
  low i l = g.limits i l

  client_chains : (c : Chain) → ChainFits (get_or h 8 0) client c (queue (state_from h rs).client.queues c)
  unfolding state_from chains
  client_chains base = chain_fits client base 1 _ _ refl (lit< tt) (lit< tt) (g.chains 1 (lit< tt)).fit (g.chains 1 (lit< tt)).order
  client_chains blocking = chain_fits client blocking 2 _ _ refl (lit< tt) (lit< tt) (g.chains 2 (lit< tt)).fit (g.chains 2 (lit< tt)).order
  client_chains bypassable = chain_fits client bypassable 3 _ _ refl (lit< tt) (lit< tt) (g.chains 3 (lit< tt)).fit (g.chains 3 (lit< tt)).order
  client_chains internal = chain_fits client internal 4 _ _ refl (lit< tt) (lit< tt) (g.chains 4 (lit< tt)).fit (g.chains 4 (lit< tt)).order

  server_chains : (c : Chain) → ChainFits (get_or h 9 0) server c (queue (state_from h rs).server.queues c)
  unfolding state_from chains
  server_chains base = chain_fits server base 6 _ _ refl (lit< tt) (lit< tt) (g.chains 6 (lit< tt)).fit (g.chains 6 (lit< tt)).order
  server_chains blocking = chain_fits server blocking 7 _ _ refl (lit< tt) (lit< tt) (g.chains 7 (lit< tt)).fit (g.chains 7 (lit< tt)).order
  server_chains bypassable = chain_fits server bypassable 8 _ _ refl (lit< tt) (lit< tt) (g.chains 8 (lit< tt)).fit (g.chains 8 (lit< tt)).order
  server_chains internal = chain_fits server internal 9 _ _ refl (lit< tt) (lit< tt) (g.chains 9 (lit< tt)).fit (g.chains 9 (lit< tt)).order

  client_ok : SideOk client (state_from h rs).client
  unfolding state_from bank chains
  client_ok =
      record {
        action = low 4 (lit< tt);
        reporting = low 6 (lit< tt);
        machines = low 8 (lit< tt);
        chains = client_chains;
        sum = low 10 (lit< tt);
        stamps = stamps_fit 5 _ _ refl (lit< tt) (g.chains 5 (lit< tt)).fit;
        timer_slots = refl;
        action_slots = refl;
        end = end_fits _ (low 12 (lit< tt));
        timers = timers_fit h g.slots 0 (lit< tt);
        actions = actions_fit h g.slots 0 (lit< tt);
      }

  server_ok : SideOk server (state_from h rs).server
  unfolding state_from bank chains
  server_ok =
      record {
        action = low 5 (lit< tt);
        reporting = low 7 (lit< tt);
        machines = low 9 (lit< tt);
        chains = server_chains;
        sum = low 11 (lit< tt);
        stamps = stamps_fit 10 _ _ refl (lit< tt) (g.chains 10 (lit< tt)).fit;
        timer_slots = refl;
        action_slots = refl;
        end = end_fits _ (low 13 (lit< tt));
        timers = timers_fit h g.slots 1 (lit< tt);
        actions = actions_fit h g.slots 1 (lit< tt);
      }

  sound_from : Sound (state_from h rs)
  unfolding state_from chains
  sound_from =
      record {
        client = client_ok;
        server = server_ok;
        aggregates = aggregates_fit _ _ (g.chains 11 (lit< tt)).fit;
        order = aggregates_order 0 0 _ (g.chains 11 (lit< tt)).order;
      }

  settings_from : SettingsOk (state_from h rs).settings
  unfolding state_from bank
  settings_from =
      record { network = low 0 (lit< tt); window = low 3 (lit< tt); network_rate_fits = rate_fits _ (low 1 (lit< tt)); queue_rate_fits = rate_fits _ (low 2 (lit< tt)) }

  room_from : (state_from h rs).room ≡ length rs / 4
  unfolding state_from
  room_from = refl

  total_from : (state_from h rs).rounds ≤ get_or limits 17 0
  unfolding state_from bank
  total_from = low 17 (lit< tt)

  free_length : length (state_from h rs).free ≡ count_of h 0
  unfolding state_from chains
  free_length = length_map _ (nodes rs (count_of h 0) (head_of h 0)) ∙ length_nodes rs (count_of h 0) (head_of h 0)

  whole_from : Whole (state_from h rs)
  whole_from = omega (arith, used_is h rs g.counts, free_length, room_from, count_le h 0 chain_count (omega arith), g.counts)

  pub good_state : 1 ≤ room rs → room rs ≤ 65_535 → AcceptedState (state_from h rs)
  good_state least most =
      record {
        sound = sound_from;
        settings = settings_from;
        room = omega (arith, room_from, g.reserve);
        some_room = rw room_from least;
        size = rw room_from most;
        total = total_from;
        whole = whole_from;
        once = λ r a b. state_once h rs g r (record { one = a; fits = omega (arith, room_from) });
      }

-- THE tie: what accepted words hold is an accepted state of the rules
pub words_hold : (w : List ℕ) → Accepted w → AcceptedState (state_of w)
words_hold w a = good_state (take 256 w) (drop 256 w) a.good (rw (length-drop 256 w) (omega (arith, a.size.least))) (rw (length-drop 256 w) (omega (arith, a.size.most)))
