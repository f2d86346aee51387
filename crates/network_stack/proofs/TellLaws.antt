-- Laws of what adding a stamp tells: the oldest stamp is read from the words that stand, and is within its limit. Assumes nothing.
use Prim.Native.Nat.{◌*◌, ◌+◌, ◌-◌, ◌<◌, ◌≤◌, ℕ}
use mathlib.Core.List.{List, ◌∷◌, map}
use mathlib.Core.Path.{◌∙◌, ◌≡◌, ap, refl, subst, sym}
use native.Mathlib.Omega.{arith}
use lib.Dec.{lit<}
use lib.ListN.{drop, get_or, length, take}
use lib.Seq.{get_or-take}
use Rattle.rules.specs.Basics.{Side, client, server}
use Rattle.rules.specs.State.{Held, State, free_place, in_record, side}
use Rattle.rules.specs.Limits.{duration_limit, moment_limit}
use Rattle.rules.specs.NetworkStep.{count_falls, free_with_evicted, stamp, stamp_tells, stamps_kept, too_old_from}
use Rattle.laws.specs.Fits.{All}
use Rattle.laws.specs.Sound.{sound_side}
use Rattle.laws.specs.SoundStep.{stamp_sound}
use Rattle.event.specs.Answers.{falls_of}
use Rattle.std.specs.Prelude.{Option}
use Rattle.moment.specs.declared.Moment.{Moment}
use Rattle.queue_event.specs.Chain.{nodes, rec_at}
use Rattle.queue_event.specs.Words.{In, moment_of, next_of}
use Rattle.layout.specs.Changes.{put_chain, side_no}
use Rattle.layout.specs.Layout.{held_stamp, state_from, state_of}
use Rattle.layout.specs.Shape.{Shaped}
use Rattle.queue.specs.Changes.{Leaves, count_in, head_in}
use Rattle.queue_event.proofs.Laws.{nodes_next}
use Rattle.layout.proofs.Banks.{bank_at}
use Rattle.layout.proofs.Theorems.{holds_accepted}
use Rattle.queue.proofs.Changing.{count_word, first_in, head_word_lem}
use Rattle.queue.proofs.Sizes.{stamps_length}
use Rattle.network_stack.specs.Windows.{Counted, MayTell, Stampable, Stamped, window_told}
use Rattle.network_stack.specs.declared.window_count.Window.{Window}
use Rattle.network_stack.specs.declared.window_count.WindowCount.{WindowCount}
use Rattle.network_stack.proofs.EvictLaws.{no_small, nodes_are}
use Rattle.network_stack.proofs.WindowLaws.{length_appended, stamp_stored}

-- ---- the oldest stamp, in the words

-- the first of a side's stamps, by the words of its record
module _ (v : List ℕ) (z : Side) (s : Shaped v) (some : 0 < count_in v (5 + 5 * side_no z)) where
  abbrev first : ℕ
  first = head_in v (5 + 5 * side_no z)

  abbrev others : List (Held ℕ)
  others = map held_stamp (nodes (drop 256 v) (count_in v (5 + 5 * side_no z) - 1) (next_of (drop 256 v) first))

  stamps_begin : (side (state_of v) z).stamps ≡ in_record first (moment_of (drop 256 v) first) ∷ others
  unfolding rec_at
  stamps_begin = nodes_are v z s ∙ ap (map held_stamp) (nodes_next (drop 256 v) (count_in v (5 + 5 * side_no z)) first some)

-- ---- `told`

-- the window, in word 3
window_is : (v : List ℕ) → get_or v 3 0 ≡ (state_of v).settings.window
unfolding state_from
window_is v = sym (bank_at 0 24 (take 256 v) 3 (lit< tt) ∙ get_or-take 256 v 3 0 (lit< tt))

pub window_small : (v : List ℕ) (z : Side) → MayTell v z → get_or v 3 0 ≤ duration_limit
window_small v z may = omega (arith, window_is v, may.window)

module _ (v : List ℕ) (z : Side) (k : ℕ) (may : MayTell v z) (ek : (k ≡ 5 + 5 * side_no z) × (k ≤ 10)) where
  many : 0 < count_in v (5 + 5 * side_no z)
  many = omega (arith, stamps_length v z, may.some)

  -- f is the chain's first record, and n how many it has
  module _ (f n : ℕ) (ef : f ≡ get_or v (24 + 2 * k) 0) (en : n ≡ get_or v (25 + 2 * k) 0) where
    first_is : f ≡ head_in v (5 + 5 * side_no z)
    first_is = ef ∙ head_word_lem v k (omega (arith, ek.1)) ∙ ap (head_in v) ek.0

    pub oldest_in : In (drop 256 v) f
    oldest_in = rw first_is (first_in v may.shaped (5 + 5 * side_no z) (no_small z) many)

    module _ (rs : List ℕ) (r m : ℕ) (er : rs ≡ drop 256 v) (e : r ≡ f) (em : m ≡ moment_of rs r) where
      stamps_are : (side (state_of v) z).stamps ≡ in_record (head_in v (5 + 5 * side_no z)) m ∷ others v z may.shaped many
      stamps_are =
          stamps_begin v z may.shaped many
          ∙ ap (λ i. in_record (head_in v (5 + 5 * side_no z)) i ∷ others v z may.shaped many) (sym (em ∙ (λ d. moment_of (er d) ((e ∙ first_is) d))))

      pub oldest_small : m ≤ moment_limit
      oldest_small = (subst (All (λ (t : Held ℕ). t.value ≤ moment_limit)) stamps_are may.stamps).0

      pub tells : (t : Option Moment) → falls_of t ≡ too_old_from (get_or v 3 0) m
          → window_told (record { count = n; falls = t }) ≡ stamp_tells (state_of v).settings.window (side (state_of v) z).stamps
      tells t et =
          λ d. record {
            count = (en ∙ count_word v k (omega (arith, ek.1)) ∙ ap (count_in v) ek.0 ∙ sym (stamps_length v z)) d;
            falls = (et ∙ ap (λ i. too_old_from i m) (window_is v) ∙ ap (count_falls (state_of v).settings.window) (sym stamps_are)) d;
          }

-- ---- `stamp`: v is what it leaves

-- a stamp that is added stands, and changes no setting
stamp_some : (s : State) (z : Side) (now : ℕ) → 0 < length (side (stamp s z now) z).stamps
unfolding stamp
stamp_some s client now = omega (arith, length_appended (stamps_kept s.settings.window now s.client.stamps) (in_record (free_place (free_with_evicted s.settings.window now s.client.stamps s.free)) now))
stamp_some s server now = omega (arith, length_appended (stamps_kept s.settings.window now s.server.stamps) (in_record (free_place (free_with_evicted s.settings.window now s.server.stamps s.free)) now))

stamp_settings : (s : State) (z : Side) (now : ℕ) → (stamp s z now).settings ≡ s.settings
unfolding stamp
stamp_settings s client now = refl
stamp_settings s server now = refl

module _
    (w : List ℕ) (z : Side) (now gone k : ℕ) (s : Stampable w z now gone) (ek : (k ≡ 5 + 5 * side_no z) × (k ≤ 10)) (x : List ℕ) (r : WindowCount) (c : Counted w x z now r) (v : List ℕ)
    (ev : v ≡ put_chain x k r.first r.count) where
  left : Leaves w v (stamp (state_of w) z now)
  left = stamp_stored w z now gone k s.may ek x r c v ev

  pub tell_may : now ≤ moment_limit → MayTell v z
  tell_may n =
      record {
        shaped = left.shaped;
        some = rw left.state (stamp_some (state_of w) z now);
        stamps = rw left.state (sound_side (stamp_sound (state_of w) z now (holds_accepted w s.accepted).sound n) z).stamps;
        window = rw left.state (rw (stamp_settings (state_of w) z now) (holds_accepted w s.accepted).settings.window);
      }

  pub stamp_told : (t : Window) → window_told t ≡ stamp_tells (state_of v).settings.window (side (state_of v) z).stamps → Stamped w v z now t
  stamp_told t e =
      record {
        leaves = left;
        tells =
            e ∙ ap (λ s. stamp_tells s.settings.window (side s z).stamps) left.state
            ∙ ap (λ y. stamp_tells y.window (side (stamp (state_of w) z now) z).stamps) (stamp_settings (state_of w) z now);
      }
