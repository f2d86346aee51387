-- The two tags of an aggregate. Assumes nothing.
use Prim.Native.Nat.{ℕ}
use mathlib.Core.Path.{◌≡◌}
use mathlib.Core.Bool.{true, false}
use native.Mathlib.Omega.{arith}
use Rattle.queue_event.specs.Tag.{aggregate_tag}
use Rattle.layout.specs.Records.{AggregateShape}

-- "an aggregate's tag is 11 or 2,059", and no other number below 4,096 is 11 above a multiple of 2,048
pub aggregate_of_client : (t : ℕ) → t ≡ aggregate_tag true → AggregateShape t
unfolding aggregate_tag
aggregate_of_client t e = record { rest = omega (arith, e); side = omega (arith, e) }

pub aggregate_of_server : (t : ℕ) → t ≡ aggregate_tag false → AggregateShape t
unfolding aggregate_tag
aggregate_of_server t e = record { rest = omega (arith, e); side = omega (arith, e) }

pub aggregate_of_none : (t : ℕ) → AggregateShape t → (t ≡ aggregate_tag true → ⊥) → t ≡ aggregate_tag false
unfolding aggregate_tag
aggregate_of_none t s n = omega (arith, s.rest, s.side, n)
