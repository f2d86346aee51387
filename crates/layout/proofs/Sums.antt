-- Sums over the slots and over the chains, one more at a time. Assumes nothing.
use Prim.Native.Nat.{ℕ, ◌+◌, ◌*◌}
use mathlib.Core.Path.{◌≡◌, refl}
use mathlib.Core.List.{List}
use native.Mathlib.Numerals.{add-one}
use Rattle.layout.specs.Header.{timer_of, action_of, held, slots_room}
use Rattle.layout.specs.Records.{count_of, counts_to}

pub slots_room_zero : (h : List ℕ) → slots_room h 0 ≡ 0
unfolding slots_room
slots_room_zero h = refl

pub slots_room_more : (h : List ℕ) (j : ℕ) → slots_room h (j + 1) ≡ slots_room h j + (held (timer_of h j) + 4 * held (action_of h j))
unfolding slots_room
slots_room_more h j = rw add-one

pub counts_to_zero : (h : List ℕ) → counts_to h 0 ≡ 0
unfolding counts_to
counts_to_zero h = refl

pub counts_to_more : (h : List ℕ) (k : ℕ) → counts_to h (k + 1) ≡ counts_to h k + count_of h k
unfolding counts_to
counts_to_more h k = rw add-one
