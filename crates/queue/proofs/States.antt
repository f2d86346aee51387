-- The state held after chain k and the free chain are given anew: queueing and taking of events, aggregates and stamps, as the rules have them. Assumes nothing.
use Prim.Native.Nat.{ℕ, ◌+◌, ◌*◌, ◌/◌, ◌<◌, ◌≤◌}
use mathlib.Core.Path.{◌≡◌, refl, sym, ap, ◌∙◌}
use mathlib.Core.Bool.{Bool, true, false}
use mathlib.Core.List.{List, [], ◌∷◌, ◌++◌, map, tail}
use mathlib.Core.Logic.{◌⊎◌, inl, inr}
use native.Mathlib.Omega.{arith}
use lib.Dec.{ltb}
use lib.ListN.{length, get_or, take, drop, length-drop}
use lib.Seq.{get_or-take}
use borrow.Author.Tests.{ltb-true}
use Rattle.std.specs.Prelude.{if◌then◌else◌}
use Rattle.rules.specs.Basics.{Side, client, server}
use Rattle.rules.specs.State.{Chain, State, side, with_side, with_stamps, with_aggregates, with_free, free_place}
use Rattle.queue_event.specs.Chain.{Rec, Node}
use Rattle.layout.specs.Layout.{bank, held_event, held_aggregate, held_stamp, place_of, build, state_from, state_of}
use Rattle.layout.specs.Shape.{Shaped}
use Rattle.layout.specs.Changes.{side_no, chain_no, with_chain}
use Rattle.layout.proofs.Banks.{upd, by_points}
use Rattle.layout.proofs.TwoChains.{chain_built}
use Rattle.queue.specs.Changes.{Changed, Leaves, Beside, head_in, count_in, chains_in}
use Rattle.queue.proofs.Changing.{first_is}

-- what a record of moment m, length l and tag t holds
abbrev pub rec_of : ℕ → ℕ → ℕ → Rec
rec_of m l t = record { moment = m; size = l; tag = t }

-- ---- the banks and R are as they were

module _ (w left : List ℕ) (size : length left ≡ length w) (same : Beside w left) where
  bank_kept : (b n : ℕ) → (b + n ≤ 24) ⊎ ((48 ≤ b) × (b + n ≤ 256)) → bank b n (take 256 left) ≡ bank b n (take 256 w)
  unfolding bank
  bank_kept b n o = by_points _ _ (λ i. go i (ltb i n) refl o)
    where
      word : (i : ℕ) → i < 256 → (i < 24) ⊎ (48 ≤ i) → get_or (take 256 left) i 0 ≡ get_or (take 256 w) i 0
      word i l p = get_or-take 256 left i 0 l ∙ same i l p ∙ sym (get_or-take 256 w i 0 l)

      go : (i : ℕ) (t : Bool) → ltb i n ≡ t → (b + n ≤ 24) ⊎ ((48 ≤ b) × (b + n ≤ 256)) → (if t then get_or (take 256 left) (b + i) 0 else 0) ≡ (if t then get_or (take 256 w) (b + i) 0 else 0)
      go i true e (inl p) = let l = ltb-true i n e in word (b + i) (omega arith) (inl (omega arith))
      go i true e (inr p) = let l = ltb-true i n e in word (b + i) (omega (arith, p.1)) (inr (omega (arith, p.0)))
      go i false e p = refl

  room_kept : length (drop 256 left) / 4 ≡ length (drop 256 w) / 4
  room_kept = ap (λ n. n / 4) (omega (arith, length-drop 256 left, length-drop 256 w))

-- THE law: the state is built from the same banks and from the chains given anew
module _ (w left : List ℕ) (k : ℕ) (x y : List Node) (c : Changed w left k x y) where
  pub changed_state :
      state_of left ≡ build (bank 0 24 (take 256 w)) (bank 64 32 (take 256 w)) (bank 96 96 (take 256 w)) (upd (upd (chains_in w) 0 y) k x) (length (drop 256 w) / 4)
  unfolding state_from
  changed_state = λ d.
      build (bank_kept w left c.size c.beside 0 24 (inl (omega arith)) d) (bank_kept w left c.size c.beside 64 32 (inr (omega arith)) d)
      (bank_kept w left c.size c.beside 96 96 (inr (omega arith)) d) (c.holds d) (room_kept w left c.size c.beside d)

  pub changed_leaves : (s : State) → state_of left ≡ s → Leaves w left s
  changed_leaves s e = record { shaped = c.shaped; state = e; size = c.size; beside = c.beside }

  -- of an event chain, of the aggregates, of a side's stamps
  pub changed_events : (z : Side) (n : Chain) → chain_no z n ≡ k → state_of left ≡ with_chain (state_of w) z n (map (held_event z) x) (map place_of y)
  unfolding state_from
  changed_events z n e =
      changed_state
      ∙ ap (λ i. build (bank 0 24 (take 256 w)) (bank 64 32 (take 256 w)) (bank 96 96 (take 256 w)) (upd (upd (chains_in w) 0 y) i x) (length (drop 256 w) / 4)) (sym e)
      ∙ chain_built (bank 0 24 (take 256 w)) (bank 64 32 (take 256 w)) (bank 96 96 (take 256 w)) (chains_in w) (length (drop 256 w) / 4) z n x y

  pub changed_aggregates : k ≡ 11 → state_of left ≡ with_free (with_aggregates (state_of w) (map held_aggregate x)) (map place_of y)
  unfolding state_from
  changed_aggregates e =
      changed_state
      ∙ ap (λ i. build (bank 0 24 (take 256 w)) (bank 64 32 (take 256 w)) (bank 96 96 (take 256 w)) (upd (upd (chains_in w) 0 y) i x) (length (drop 256 w) / 4)) e

  pub changed_stamps : (z : Side) → 5 + 5 * side_no z ≡ k → state_of left ≡ with_free (with_side (state_of w) z (with_stamps (side (state_of w) z) (map held_stamp x))) (map place_of y)
  unfolding state_from
  changed_stamps z e =
      changed_state
      ∙ ap (λ i. build (bank 0 24 (take 256 w)) (bank 64 32 (take 256 w)) (bank 96 96 (take 256 w)) (upd (upd (chains_in w) 0 y) i x) (length (drop 256 w) / 4)) (sym e)
      ∙ built z
    where
      built : (z : Side) → build (bank 0 24 (take 256 w)) (bank 64 32 (take 256 w)) (bank 96 96 (take 256 w)) (upd (upd (chains_in w) 0 y) (5 + 5 * side_no z) x) (length (drop 256 w) / 4) ≡ with_free (with_side (state_of w) z (with_stamps (side (state_of w) z) (map held_stamp x))) (map place_of y)
      built client = refl
      built server = refl

-- ---- what is free, and the first of a chain

pub map_tail : {A B : Type 0} (f : A → B) (l : List A) → map f (tail l) ≡ tail (map f l)
map_tail f [] = refl
map_tail f (x ∷ l) = refl

pub map_append : {A B : Type 0} (f : A → B) (l m : List A) → map f (l ++ m) ≡ map f l ++ map f m
map_append f [] m = refl
map_append f (x ∷ l) m = ap (λ r. f x ∷ r) (map_append f l m)

module _ (w : List ℕ) (s : Shaped w) where
  -- the place that the next record has
  pub free_place_lem : 0 < count_in w 0 → free_place (state_of w).free ≡ head_in w 0
  unfolding state_from
  free_place_lem l = rw (first_is w s 0 (omega arith) l)
