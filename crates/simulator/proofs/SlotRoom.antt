-- What is reserved once a slot is set, and whether there is room for it: number 9 of setting a timer or an action. Assumes nothing.
use Prim.Native.Nat.{ℕ, zero, suc, ◌+◌, ◌*◌, ◌<◌}
use mathlib.Core.Path.{◌≡◌, refl, sym, ap, ◌∙◌}
use mathlib.Core.Bool.{Bool, true, false}
use mathlib.Core.List.{List, [], ◌∷◌}
use mathlib.Core.Option.{Option, none, some}
use native.Mathlib.Omega.{arith}
use lib.Dec.{eqb, ltb}
use lib.ListN.{length, get_or, set}
use borrow.Author.Tests.{le-ltb, ne_eqb}
use Rattle.std.specs.Prelude.{if◌then◌else◌}
use Rattle.rules.specs.Basics.{Side, client, server}
use Rattle.rules.specs.State.{Action, SideState, State, held, one, side, side_reserved, side_used, with_actions, with_side, with_timers, used as used_of, reserved as reserved_of}
use Rattle.rules.specs.Effects.{timer_set}
use Rattle.rules.specs.Refusals.{full}
use Rattle.laws.specs.Counts.{used_with, reserved_with}
use Rattle.event.specs.HandedIn.{side_of}
use Rattle.layout.specs.Header.{reserved}
use Rattle.layout.specs.Accepted.{Good, room}
use Rattle.layout.specs.Layout.{action_from, bank, less_one, state_from}
use Rattle.layout.specs.Changes.{side_no}
use Rattle.layout.proofs.Banks.{bank_at}
use Rattle.layout.proofs.Counts.{reserved_is}
use Rattle.layout.proofs.FixedHeader.{firsts_at}
use Rattle.simulator.specs.Numbers.{no_room, slot_in}
use Rattle.simulator.proofs.Reading.{room_is, used_free, reserve_kept, same_ltb}

-- ---- one slot of a list set

held_set : {A : Type 0} (l : List (Option A)) (m : ℕ) (a : A) → m < length l → held (set l m (some a)) + one (get_or l m none) ≡ suc (held l)
held_set [] m a p = absurd (omega arith)
held_set (none ∷ l) zero a p = omega arith
held_set (some b ∷ l) zero a p = omega arith
held_set (none ∷ l) (suc m) a p = held_set l m a (omega arith)
held_set (some b ∷ l) (suc m) a p = omega (arith, held_set l m a (omega arith))

-- what a slot holds is there where its word is not 0
abbrev set? : ℕ → ℕ
set? word = if eqb word 0 then 0 else 1

one_less : (x : ℕ) → one (less_one x) ≡ set? x
one_less zero = refl
one_less (suc n) = rw (ne_eqb (suc n) 0 (λ e. omega arith))

one_action : (x m d : ℕ) → one (action_from x m d) ≡ set? x
unfolding action_from
one_action zero m d = refl
one_action (suc n) m d = rw (ne_eqb (suc n) 0 (λ e. omega arith))

-- ---- a side of the state of accepted words with one slot more

module _ (h rs : List ℕ) (g : Good h rs) (z : Side) (x : SideState) (same : side_used x ≡ side_used (side (state_from h rs) z)) where
  room_with : (s : State) (z : Side) → (with_side s z x).room ≡ s.room
  room_with s client = refl
  room_with s server = refl

  full_with : (size old word : ℕ) → side_reserved x + old ≡ side_reserved (side (state_from h rs) z) + size → old ≡ (if eqb word 0 then 0 else size) → full (with_side (state_from h rs) z x) ≡ no_room h word size
  full_with size old word more e = go (eqb word 0) e
    where
      uses : used_of (with_side (state_from h rs) z x) ≡ used_of (state_from h rs)
      uses = omega (arith, used_with (state_from h rs) z x)

      keeps : reserved_of (with_side (state_from h rs) z x) + old ≡ reserved h + size
      keeps = omega (arith, reserved_with (state_from h rs) z x, reserved_is h rs)

      rooms : (with_side (state_from h rs) z x).room ≡ room rs
      rooms = room_with (state_from h rs) z ∙ room_is h rs

      go : (b : Bool) → old ≡ (if b then 0 else size) → full (with_side (state_from h rs) z x) ≡ (if b then ltb (get_or h 25 0) (reserved h + size) else false)
      go true q = same_ltb (with_side (state_from h rs) z x).room (used_of (with_side (state_from h rs) z x) + reserved_of (with_side (state_from h rs) z x)) (get_or h 25 0) (reserved h + size) (λ p. omega (arith, uses, keeps, rooms, used_free h rs g)) (λ p. omega (arith, uses, keeps, rooms, used_free h rs g))
      go false q = le-ltb (with_side (state_from h rs) z x).room (used_of (with_side (state_from h rs) z x) + reserved_of (with_side (state_from h rs) z x)) (omega (arith, uses, keeps, rooms, used_free h rs g, reserve_kept h rs g, reserved_is h rs))

-- ---- a timer, an action

module _ (h rs : List ℕ) (c : Bool) (m j : ℕ) (small : m < 16) (ej : j ≡ 16 * side_no (side_of c) + m) where
  timer_there : one (get_or (side (state_from h rs) (side_of c)).timers m none) ≡ set? (get_or h (64 + j) 0)
  unfolding state_from
  timer_there = go c ej
    where
      go : (c : Bool) → j ≡ 16 * side_no (side_of c) + m → one (get_or (side (state_from h rs) (side_of c)).timers m none) ≡ set? (get_or h (64 + j) 0)
      go true e =
          ap one (firsts_at 16 (λ i. less_one (bank 64 32 h (16 * 0 + i))) m none small) ∙ one_less (bank 64 32 h (16 * 0 + m))
          ∙ ap set? (bank_at 64 32 h (16 * 0 + m) (omega (arith, small)) ∙ ap (λ i. get_or h (64 + i) 0) (sym e))
      go false e =
          ap one (firsts_at 16 (λ i. less_one (bank 64 32 h (16 * 1 + i))) m none small) ∙ one_less (bank 64 32 h (16 * 1 + m))
          ∙ ap set? (bank_at 64 32 h (16 * 1 + m) (omega (arith, small)) ∙ ap (λ i. get_or h (64 + i) 0) (sym e))

  action_there : one (get_or (side (state_from h rs) (side_of c)).actions m none) ≡ set? (get_or h (96 + 3 * j) 0)
  unfolding state_from
  action_there = go c ej
    where
      go : (c : Bool) → j ≡ 16 * side_no (side_of c) + m → one (get_or (side (state_from h rs) (side_of c)).actions m none) ≡ set? (get_or h (96 + 3 * j) 0)
      go true e =
          ap one (firsts_at 16 (λ i. action_from (bank 96 96 h (3 * (16 * 0 + i))) (bank 96 96 h (1 + 3 * (16 * 0 + i))) (bank 96 96 h (2 + 3 * (16 * 0 + i)))) m none small)
          ∙ one_action (bank 96 96 h (3 * (16 * 0 + m))) (bank 96 96 h (1 + 3 * (16 * 0 + m))) (bank 96 96 h (2 + 3 * (16 * 0 + m)))
          ∙ ap set? (bank_at 96 96 h (3 * (16 * 0 + m)) (omega (arith, small)) ∙ ap (λ i. get_or h (96 + 3 * i) 0) (sym e))
      go false e =
          ap one (firsts_at 16 (λ i. action_from (bank 96 96 h (3 * (16 * 1 + i))) (bank 96 96 h (1 + 3 * (16 * 1 + i))) (bank 96 96 h (2 + 3 * (16 * 1 + i)))) m none small)
          ∙ one_action (bank 96 96 h (3 * (16 * 1 + m))) (bank 96 96 h (1 + 3 * (16 * 1 + m))) (bank 96 96 h (2 + 3 * (16 * 1 + m)))
          ∙ ap set? (bank_at 96 96 h (3 * (16 * 1 + m)) (omega (arith, small)) ∙ ap (λ i. get_or h (96 + 3 * i) 0) (sym e))

  sixteen_timers : length (side (state_from h rs) (side_of c)).timers ≡ 16
  unfolding state_from
  sixteen_timers = go c
    where
      go : (c : Bool) → length (side (state_from h rs) (side_of c)).timers ≡ 16
      go true = refl
      go false = refl

  sixteen_actions : length (side (state_from h rs) (side_of c)).actions ≡ 16
  unfolding state_from
  sixteen_actions = go c
    where
      go : (c : Bool) → length (side (state_from h rs) (side_of c)).actions ≡ 16
      go true = refl
      go false = refl

  four : (b : Bool) (x : ℕ) → x ≡ (if b then 0 else 1) → 4 * x ≡ (if b then 0 else 4)
  four true x e = omega arith
  four false x e = omega arith

  module _ (g : Good h rs) where
    pub full_timer : (t : ℕ) → full (timer_set (state_from h rs) (slot_in c m) t) ≡ no_room h (get_or h (64 + j) 0) 1
    unfolding timer_set
    full_timer t =
        full_with h rs g (side_of c) (with_timers (side (state_from h rs) (side_of c)) (set (side (state_from h rs) (side_of c)).timers m (some t))) refl
        1 (one (get_or (side (state_from h rs) (side_of c)).timers m none)) (get_or h (64 + j) 0)
        (omega (arith, held_set (side (state_from h rs) (side_of c)).timers m t (omega (arith, sixteen_timers, small)))) timer_there

    pub full_action : (a : Action) → full (with_side (state_from h rs) (side_of c) (with_actions (side (state_from h rs) (side_of c)) (set (side (state_from h rs) (side_of c)).actions m (some a)))) ≡ no_room h (get_or h (96 + 3 * j) 0) 4
    full_action a =
        full_with h rs g (side_of c) (with_actions (side (state_from h rs) (side_of c)) (set (side (state_from h rs) (side_of c)).actions m (some a))) refl
        4 (4 * one (get_or (side (state_from h rs) (side_of c)).actions m none)) (get_or h (96 + 3 * j) 0)
        (omega (arith, held_set (side (state_from h rs) (side_of c)).actions m a (omega (arith, sixteen_actions, small)))) (four (eqb (get_or h (96 + 3 * j) 0) 0) _ action_there)
