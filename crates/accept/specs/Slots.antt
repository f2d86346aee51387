-- What the tests of the slots find, of some of them and of all. Assumes nothing.
use Rattle.std.specs.Prelude.{ℕ, ◌+◌, ◌*◌, ◌≤◌, ◌<◌, ◌≡◌, List, length, get_or, Option, Some, None}
use Rattle.layout.specs.Header.{SlotEmpty, SlotOk, SlotsOk, slots_room, reserved}

-- all words are zero
abbrev pub Zeros : List ℕ → Type 0
Zeros w = (i : ℕ) → i < length w → get_or w i 0 ≡ 0

-- the slots from a on, below e, are empty
abbrev pub EmptyIn : List ℕ → ℕ → ℕ → Type 0
EmptyIn h a e = (j : ℕ) → a ≤ j → j < e → SlotEmpty h j

-- they are in order
abbrev pub OkIn : List ℕ → ℕ → ℕ → Type 0
OkIn h a e = (j : ℕ) → a ≤ j → j < e → SlotOk h j

-- r is what they keep in reserve
pub record RoomIn (h : List ℕ) (a e r : ℕ) : Type 0 where
  pub is : slots_room h a + r ≡ slots_room h e
  pub most : r + 5 * a ≤ 5 * e

-- of a test of the slots from a on, below e: where each is in order, what they keep in reserve
unfoldable pub FoundIn : List ℕ → ℕ → ℕ → Option ℕ → Type 0
FoundIn h a e None = OkIn h a e → ⊥
FoundIn h a e (Some r) = OkIn h a e × RoomIn h a e r

-- of the test of all slots: where they are in order, all that is kept in reserve
unfoldable pub FoundAll : List ℕ → Option ℕ → Type 0
FoundAll h None = SlotsOk h → ⊥
FoundAll h (Some r) = SlotsOk h × (r ≡ reserved h) × (r ≤ 166)
