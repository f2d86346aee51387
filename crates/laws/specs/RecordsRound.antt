-- A round, and a choice, leave each record number as often as it was: what a round takes is reserved.
use Rattle.std.specs.Prelude.{ℕ, ◌≤◌, ◌≡◌, refl, true}
use Rattle.std.proofs.Common.{arith}
use Rattle.rules.specs.Basics.{Side, client, server}
use Rattle.rules.specs.State.{SideState, State, side, with_side, with_ended, side_reserved, reserved}
use Rattle.laws.specs.Records.{weigh_side, weigh, Same, weigh_with}

-- ---- one side changed, its chains and stamps not

abbrev pub Chained : SideState → SideState → Type 0
Chained x y = (w : ℕ → ℕ) → weigh_side w y ≡ weigh_side w x

-- the side named with the same chains and stamps
pub with_same : (s : State) (z : Side) (x : SideState) → Chained (side s z) x → Same s (with_side s z x)
with_same s z x h = λ w. omega (arith, weigh_with w s z x, h w)

-- ---- a round: what it takes is reserved

pub side_reserved_lem : (s : State) (z : Side) → side_reserved (side s z) ≤ reserved s
unfolding reserved
side_reserved_lem s client = omega arith
side_reserved_lem s server = omega arith

-- the ended mark alone
pub ended_same : (s : State) → Same s (with_ended s true)
unfolding weigh
ended_same s = λ w. refl
