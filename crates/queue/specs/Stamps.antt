-- The first aggregate and the first stamp of a side given back, and a stamp added, as changes of the state. Assumes nothing.
use Rattle.std.specs.Prelude.{ℕ, zero, suc, ◌-◌, Bool, false, ltb, if◌then◌else◌}
use mathlib.Core.List.{List, [], ◌∷◌, ◌++◌, tail}
use Rattle.rules.specs.Basics.{Side}
use Rattle.rules.specs.State.{Held, State, free_place, in_record, side, with_aggregates, with_free, with_side, with_stamps}

-- the record of the first
abbrev pub first_place : {A : Type 0} → List (Held A) → ℕ
first_place [] = 0
first_place (x ∷ l) = x.place

-- the first aggregate is dropped and its record given back: the rules' `take_aggregate` without the sum
unfoldable pub drop_aggregate : State → State
drop_aggregate s = with_free (with_aggregates s (tail s.aggregates)) (first_place s.aggregates ∷ s.free)

-- the same of a side's first stamp
unfoldable pub drop_stamp : State → Side → State
drop_stamp s z = with_free (with_side s z (with_stamps (side s z) (tail (side s z).stamps))) (first_place (side s z).stamps ∷ s.free)

-- a stamp takes the first free record
unfoldable pub add_stamp : State → Side → ℕ → State
add_stamp s z now = with_free (with_side s z (with_stamps (side s z) ((side s z).stamps ++ (in_record (free_place s.free) now ∷ [])))) (tail s.free)

-- the first stamp is more than the window old
abbrev pub stale_first : ℕ → ℕ → List (Held ℕ) → Bool
stale_first window now [] = false
stale_first window now (t ∷ l) = ltb window (now - t.value)

-- how many stamps go: those in front that are
abbrev pub stale_count : ℕ → ℕ → List (Held ℕ) → ℕ
stale_count window now [] = 0
stale_count window now (t ∷ l) = if ltb window (now - t.value) then suc (stale_count window now l) else 0

-- the first n stamps of a side given back, the oldest first
abbrev pub drop_stamps : ℕ → State → Side → State
drop_stamps zero s z = s
drop_stamps (suc n) s z = drop_stamps n (drop_stamp s z) z
