-- Laws of the stamps that go one by one before a new one is added, and of the records that they free. Assumes nothing.
use Prim.Native.Nat.{ℕ, suc, ◌+◌, ◌*◌, ◌-◌, ◌≤◌, ◌<◌, zero}
use mathlib.Core.Path.{◌≡◌, refl, sym, ap, ◌∙◌}
use mathlib.Core.Bool.{Bool, true, false}
use mathlib.Core.List.{List, [], ◌∷◌, tail, map}
use native.Mathlib.Omega.{arith}
use lib.Dec.{ltb}
use lib.ListN.{length, take, drop}
use Rattle.std.specs.Prelude.{if◌then◌else◌}
use Rattle.rules.specs.Basics.{Side, client, server}
use Rattle.rules.specs.State.{Held, State, side}
use Rattle.rules.specs.NetworkStep.{free_with_evicted, stamp}
use Rattle.layout.specs.Layout.{state_of, held_stamp}
use Rattle.layout.specs.Changes.{side_no}
use Rattle.queue.specs.Changes.{MayRelease, Released, count_in, head_in}
use Rattle.queue.specs.Stamps.{drop_stamp, stale_count, drop_stamps, first_place}
use Rattle.network.specs.Stamps.{evicted_count}
use Rattle.queue_event.specs.Words.{next_of, In}
use Rattle.layout.specs.Shape.{Shaped}
use Rattle.queue_event.specs.Chain.{Chain, nodes}
use Rattle.queue.proofs.Queueing.{released_stamp, stamps_are}
use Rattle.queue.proofs.Sizes.{stamps_length}
use Rattle.network.proofs.StampLaws.{stale_count_lem}
use Rattle.queue_event.proofs.Laws.{chain_next, nodes_next}
use Rattle.layout.proofs.Banks.{chains_at}
use Rattle.queue.proofs.Changing.{first_in}
use Rattle.network_stack.specs.Windows.{Evicting, Evicted}

-- ---- the records of those that are stale come to the free ones

evicted_free : (w now : ℕ) (l : List (Held ℕ)) (f : List ℕ) → length (free_with_evicted w now l f) ≡ length f + stale_count w now l
evicted_free w now [] f = omega arith
evicted_free w now (t ∷ l) f = go (ltb w (now - t.value)) (evicted_free w now l (t.place ∷ f))
  where
    go : (b : Bool) → length (free_with_evicted w now l (t.place ∷ f)) ≡ suc (length f) + stale_count w now l
        → length (if b then free_with_evicted w now l (t.place ∷ f) else f) ≡ length f + (if b then suc (stale_count w now l) else 0)
    go true e = omega arith
    go false e = omega arith

-- ---- what one stamp given back changes

stamps_kept_lem : (s : State) (z : Side) → (side (drop_stamp s z) z).stamps ≡ tail (side s z).stamps
unfolding drop_stamp
stamps_kept_lem s client = refl
stamps_kept_lem s server = refl

free_more : (s : State) (z : Side) → length (drop_stamp s z).free ≡ suc (length s.free)
unfolding drop_stamp
free_more s client = refl
free_more s server = refl

tail_less : {A : Type 0} (l : List A) → length (tail l) ≡ length l - 1
tail_less [] = refl
tail_less (x ∷ l) = omega arith

-- what all of them leave of the stamps and of the free records
pub stamps_left : (n : ℕ) (s : State) (z : Side) → length (side (drop_stamps n s z) z).stamps ≡ length (side s z).stamps - n
stamps_left zero s z = omega arith
stamps_left (suc n) s z = stamps_left n (drop_stamp s z) z ∙ ap (λ l. length l - n) (stamps_kept_lem s z) ∙ omega (arith, tail_less (side s z).stamps)

pub free_left : (n : ℕ) (s : State) (z : Side) → length (drop_stamps n s z).free ≡ length s.free + n
free_left zero s z = omega arith
free_left (suc n) s z = free_left n (drop_stamp s z) z ∙ omega (arith, free_more s z)

-- ---- the first stamp and the one after it

place_first : (rs : List ℕ) (k n h : ℕ) → Chain rs k n h → first_place (map held_stamp (nodes rs n h)) ≡ h
unfolding Chain nodes
place_first rs k zero h c = sym c
place_first rs k (suc n) h c = refl

pub no_small : (z : Side) → (5 + 5 * side_no z) < 12
no_small client = omega arith
no_small server = omega arith

module _ (w : List ℕ) (z : Side) (s : Shaped w) where
  -- the stamps as they stand in the words
  pub nodes_are : (side (state_of w) z).stamps ≡ map held_stamp (nodes (drop 256 w) (count_in w (5 + 5 * side_no z)) (head_in w (5 + 5 * side_no z)))
  nodes_are = stamps_are w z ∙ ap (map held_stamp) (chains_at (take 256 w) (drop 256 w) (5 + 5 * side_no z) (no_small z))

  pub stamps_first : first_place (side (state_of w) z).stamps ≡ head_in w (5 + 5 * side_no z)
  stamps_first =
      ap first_place nodes_are
      ∙ place_first (drop 256 w) (5 + 5 * side_no z) (count_in w (5 + 5 * side_no z)) (head_in w (5 + 5 * side_no z)) (s.shape.chains (5 + 5 * side_no z) (no_small z)).links

  stamps_second : 0 < count_in w (5 + 5 * side_no z) → first_place (tail (side (state_of w) z).stamps) ≡ next_of (drop 256 w) (head_in w (5 + 5 * side_no z))
  stamps_second l =
      ap (λ x. first_place (tail x)) nodes_are
      ∙ ap (λ x. first_place (tail (map held_stamp x))) (nodes_next (drop 256 w) (count_in w (5 + 5 * side_no z)) (head_in w (5 + 5 * side_no z)) l)
      ∙ place_first (drop 256 w) (5 + 5 * side_no z) (count_in w (5 + 5 * side_no z) - 1) (next_of (drop 256 w) (head_in w (5 + 5 * side_no z)))
      (chain_next (drop 256 w) (5 + 5 * side_no z) (count_in w (5 + 5 * side_no z)) (head_in w (5 + 5 * side_no z)) l (s.shape.chains (5 + 5 * side_no z) (no_small z)).links)

-- ---- the loop

-- after n turns
module _ (w v : List ℕ) (z : Side) (gone n a : ℕ) (at : Evicting w v z gone (gone - n) a) where
  counted : n < gone → 0 < count_in v (5 + 5 * side_no z)
  counted more = omega (arith, at.some, stamps_length v z)

  pub evict_in : n < gone → In (drop 256 v) a
  evict_in more = rw (at.first ∙ stamps_first v z at.shaped) (first_in v at.shaped (5 + 5 * side_no z) (no_small z) (counted more))

  -- one turn
  module _ (more : n < gone) (k : ℕ) (ek : (k ≡ 5 + 5 * side_no z) × (k ≤ 10)) where
    pub evict_may : MayRelease v k
    evict_may = record { shaped = at.shaped; chain = omega (arith, ek.1); used = omega (arith, ek.0); some = omega (arith, counted more, ap (count_in v) ek.0) }

    pub evict_turn : (u : List ℕ) (b : ℕ) → b ≡ next_of (drop 256 v) a → Released v u k → Evicting w u z gone (gone - (n + 1)) b
    evict_turn u b e r =
        record {
          shaped = r.shaped;
          size = r.size ∙ at.size;
          beside = λ i l o. r.beside i l o ∙ at.beside i l o;
          same = ap (λ s. drop_stamps (gone - (n + 1)) s z) is ∙ ap (λ n. drop_stamps n (state_of v) z) (sym one_less) ∙ at.same;
          some = omega (arith, ap length stamps, tail_less (side (state_of v) z).stamps, at.some);
          first = e ∙ ap (next_of (drop 256 v)) (at.first ∙ stamps_first v z at.shaped) ∙ sym (stamps_second v z at.shaped (counted more)) ∙ ap first_place (sym stamps);
        }
      where
        is : state_of u ≡ drop_stamp (state_of v) z
        is = released_stamp v u k evict_may r z (sym ek.0)

        stamps : (side (state_of u) z).stamps ≡ tail (side (state_of v) z).stamps
        stamps = ap (λ s. (side s z).stamps) is ∙ stamps_kept_lem (state_of v) z

        one_less : gone - n ≡ suc (gone - (n + 1))
        one_less = omega arith

  -- none is left to go
  module _ (no_more : gone ≤ n) where
    left_is : state_of v ≡ drop_stamps gone (state_of w) z
    left_is = ap (λ n. drop_stamps n (state_of v) z) (sym zero_left) ∙ at.same
      where
        zero_left : gone - n ≡ 0
        zero_left = omega arith

    pub evict_done : Evicted w v z gone a
    evict_done =
        record {
          leaves = record { shaped = at.shaped; state = left_is; size = at.size; beside = at.beside };
          first = at.first ∙ ap (λ s. first_place (side s z).stamps) left_is;
        }

-- ---- the records free after a stamp

pub stamp_free : (s : State) (z : Side) (now : ℕ) → length (stamp s z now).free ≡ length s.free + evicted_count s.settings.window now (side s z).stamps - 1
unfolding stamp
stamp_free s z now =
    tail_less (free_with_evicted s.settings.window now (side s z).stamps s.free)
    ∙ ap (λ n. n - 1) (evicted_free s.settings.window now (side s z).stamps s.free ∙ ap (λ n. length s.free + n) (stale_count_lem s.settings.window now (side s z).stamps))
