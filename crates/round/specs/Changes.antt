-- What a case of a round leaves: the words hold the state that the rules say, in the shape, and words without a meaning are as they were. Assumes nothing.
use Rattle.std.specs.Prelude.{ℕ, ◌+◌, ◌≤◌, ◌≡◌, Bool, true, false, List, length, get_or}
use Rattle.std.proofs.Math.Option.{none, some}
use Rattle.rules.specs.Basics.{Side}
use Rattle.rules.specs.State.{State, side, with_side, with_sum, with_block}
use Rattle.rules.specs.ChoiceRound.{Slot}
use Rattle.layout.specs.Layout.{state_of}
use Rattle.layout.specs.Shape.{Shaped}
use Rattle.layout.specs.Spare.{Spare}

-- the words without a meaning are as they were
abbrev pub SpareKept : List ℕ → List ℕ → Type 0
SpareKept w left = (i : ℕ) → Spare i → get_or left i 0 ≡ get_or w i 0

-- the state held is s
pub record Becomes (w left : List ℕ) (s : State) : Type 0 where
  pub shaped : Shaped left
  pub state : state_of left ≡ s
  pub size : length left ≡ length w
  pub spare : SpareKept w left

-- n records are free
pub record HasFree (w : List ℕ) (n : ℕ) : Type 0 where
  pub shaped : Shaped w
  pub free : n ≤ length (state_of w).free

-- ---- one part of the state given anew

-- n more on a side's sum
abbrev pub raised_by : State → Side → ℕ → State
raised_by s z n = with_side s z (with_sum (side s z) ((side s z).sum + n))

-- a side without its block, its flag as it was
abbrev pub unblocked : State → Side → State
unblocked s z = with_side s z (with_block (side s z) none (side s z).block_bypassable)

-- a side blocked until a moment
abbrev pub blocked_to : State → Side → ℕ → Bool → State
blocked_to s z end flag = with_side s z (with_block (side s z) (some end) flag)

-- a machine of a side
abbrev pub slot_at : Side → ℕ → Slot
slot_at z m = record { side = z; machine = m }

-- a flag as a word
unfoldable pub bit_of : Bool → ℕ
bit_of true = 1
bit_of false = 0
