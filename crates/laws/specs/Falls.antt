-- A round never lets used + reserved grow, and one that does not end the choice lowers A + 3B + T + 4S.
use Rattle.std.specs.Prelude.{ℕ, ◌+◌, ◌≤◌, ◌<◌, ◌≡◌, refl, true, length}
use Rattle.std.proofs.Common.{ap, arith}
use mathlib.Core.List.{List, [], ◌∷◌, tail}
use Rattle.rules.specs.Basics.{Side}
use Rattle.rules.specs.State.{Action, ActionKind, SendPadding, BlockOutgoing, SideState, State, side, with_side, side_used, used, reserved, rounds_left, with_ended, base, blocking, bypassable, internal, Chain}
use Rattle.rules.specs.ChoiceHeads.{Head}
use Rattle.rules.specs.ChoiceRound.{RoundOutcome, next, taken, nothing, passed, lift_event, pop_side, no_action, sets_block, acted_side}
use Rattle.laws.specs.Branches.{by_if}
use Rattle.laws.specs.Counts.{used_with, reserved_with, aggregates_with, rounds_left_is}

-- what holds of the state after a round against the one before it
pub record Falls (s t : State) : Type 0 where
  pub room : used t + reserved t ≤ used s + reserved s
  pub left : rounds_left t < rounds_left s

-- a round that ends the choice
pub record Stays (s t : State) : Type 0 where
  pub room : used t + reserved t ≤ used s + reserved s
  pub left : rounds_left t ≤ rounds_left s

-- what a round keeps, by how it ends
abbrev pub Kept : State → RoundOutcome → Type 0
Kept s (next t) = Falls s t
Kept s (taken e t) = Stays s t
Kept s (nothing t) = Stays s t
Kept s (passed t) = Stays s t

-- ---- the five cases

-- the state with the block cleared and nothing queued yet: three records less are reserved, and at most two more are used
pub record Cleared (s t : State) : Type 0 where
  pub fewer : reserved t + 3 ≡ reserved s
  pub more : used t ≤ used s + 2
  pub pending : length t.aggregates ≤ length s.aggregates + 2

-- an action done: its slot reserves four records less, and a block that it sets three more
pub acted_used : (k : ActionKind) (x : SideState) (a : Action) (m : ℕ) → side_used (no_action (acted_side k x a) m) ≡ side_used x
acted_used SendPadding x a m = refl
acted_used BlockOutgoing x a m = by_if (λ (y : SideState). side_used (no_action y m) ≡ side_used x) (sets_block x a) refl refl

-- taking an event out of its queue uses no more
tail_le : {A : Type 0} (l : List A) → length (tail l) ≤ length l
tail_le [] = omega arith
tail_le (e ∷ l) = omega arith

popped_used : (x : SideState) (c : Chain) → side_used (pop_side x c) ≤ side_used x
popped_used x base = omega (arith, tail_le x.queues.base)
popped_used x blocking = omega (arith, tail_le x.queues.blocking)
popped_used x bypassable = omega (arith, tail_le x.queues.bypassable)
popped_used x internal = omega (arith, tail_le x.queues.internal)

-- an event out of its chain
pub lift_kept : (s : State) (h : Head) → Stays s (lift_event s h)
unfolding lift_event
lift_kept s h =
    let z : Side = h.event.side in
    let x : SideState = pop_side (side s z) h.chain in
    record {
      room = omega (arith, used_with s z x, reserved_with s z x, popped_used (side s z) h.chain);
      left = omega (arith, reserved_with s z x, rounds_left_is s, rounds_left_is (with_side s z x), ap length (aggregates_with s z x));
    }

-- ---- the round

-- the ended mark alone
pub ended_kept : (s : State) → Stays s (with_ended s true)
unfolding used reserved rounds_left
ended_kept s = record { room = omega arith; left = omega arith }

-- the state after a round, however it ends
abbrev pub state_after : RoundOutcome → State
state_after (next t) = t
state_after (taken e t) = t
state_after (nothing t) = t
state_after (passed t) = t
