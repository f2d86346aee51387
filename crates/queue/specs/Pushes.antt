-- An event and an aggregate as the rules have them, and what queueing them asks. Assumes nothing.
use Rattle.std.specs.Prelude.{ℕ, ◌≤◌, ◌<◌, ◌≡◌, Bool, false, List, eqb, if◌then◌else◌}
use Rattle.event.specs.HandedIn.{has_machine_no}
use Rattle.event.specs.declared.SimEvent.{SimEvent}
use Rattle.layout.specs.Shape.{Shaped}
use Rattle.queue.specs.Changes.{count_in}

-- the chain of a side that an event of this kind and bypass flag goes to: bypassable (3), blocking (2), base (1) or internal (4)
unfoldable pub chain_place : ℕ → Bool → ℕ
chain_place kind bypass = if eqb kind 0 then if bypass then 3 else 2 else if eqb kind 1 then 1 else 4

-- "Kinds 0, 1, 3, 4, 5 and 7 have no machine": it is 0
pub record Canonical (e : SimEvent) : Type 0 where
  pub kind : e.kind.0 ≤ 9
  pub machine : e.machine < 16
  pub none : has_machine_no e.kind.0 ≡ false → e.machine ≡ 0

-- a record is free, and the event may stand in one
pub record MayPush (w : List ℕ) (e : SimEvent) : Type 0 where
  pub shaped : Shaped w
  pub free : 0 < count_in w 0
  pub canonical : Canonical e

-- a record is free
pub record MayAdd (w : List ℕ) : Type 0 where
  pub shaped : Shaped w
  pub free : 0 < count_in w 0
