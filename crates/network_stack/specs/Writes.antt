-- What the parts of a step that write ask of the lent words: their shape, and free records enough. Assumes nothing.
use Rattle.std.specs.Prelude.{ℕ, ◌+◌, ◌≤◌, ◌≡◌, List}
use Rattle.rules.specs.Basics.{Side}
use Rattle.rules.specs.State.{side}
use Rattle.layout.specs.Layout.{state_of}
use Rattle.layout.specs.Shape.{Shaped}
use Rattle.queue.specs.Changes.{count_in}
use Rattle.network.specs.Stamps.{evicted_count}

-- the stale stamps of side z are `gone`, and with their records one is free
pub record MayStamp (w : List ℕ) (z : Side) (now gone : ℕ) : Type 0 where
  pub shaped : Shaped w
  pub stale : gone ≡ evicted_count (state_of w).settings.window now (side (state_of w) z).stamps
  pub free : 1 ≤ count_in w 0 + gone
