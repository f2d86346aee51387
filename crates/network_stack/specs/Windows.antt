-- `WindowCount`: the window of a side's stamps, and what adding a stamp to it asks and leaves. Assumes nothing.
use Rattle.std.specs.Prelude.{ℕ, ◌≤◌, ◌<◌, ◌≡◌, List, [], ◌∷◌, length}
use Rattle.rules.specs.Basics.{Side}
use Rattle.rules.specs.State.{Held, side}
use Rattle.rules.specs.Limits.{moment_limit, duration_limit}
use Rattle.rules.specs.NetworkStep.{Window as RulesWindow, stamp_tells, stamps_kept, stamp}
use Rattle.laws.specs.Fits.{All}
use Rattle.event.specs.Answers.{falls_of}
use Rattle.layout.specs.Accepted.{Accepted}
use Rattle.layout.specs.Layout.{state_of}
use Rattle.layout.specs.Shape.{Shaped}
use Rattle.layout.specs.Changes.{put_chain, stamps_no}
use Rattle.queue.specs.Changes.{Beside, Leaves, count_in, head_in}
use Rattle.queue.specs.Stamps.{first_place, drop_stamps}
use Rattle.network_stack.specs.Writes.{MayStamp}
use Rattle.network_stack.specs.declared.window_count.Window.{Window}
use Rattle.network_stack.specs.declared.window_count.WindowCount.{WindowCount}

-- ---- the window

-- the record of the last; 0 for none
abbrev pub last_place : {A : Type 0} → List (Held A) → ℕ
last_place [] = 0
last_place (x ∷ []) = x.place
last_place (x ∷ y ∷ l) = last_place (y ∷ l)

-- the window of these stamps: the records of the oldest and of the newest, and how many they are
abbrev pub window_of : List (Held ℕ) → WindowCount
window_of l = record { first = first_place l; last = last_place l; count = length l }

-- it begins as these stamps do, and has as many: what the header has words for. It has none for the last record, so nothing is asked of `last`
pub record Begins (v : WindowCount) (l : List (Held ℕ)) : Type 0 where
  pub first : v.first ≡ first_place l
  pub count : v.count ≡ length l

-- ---- the oldest stamps go

-- the side has so many stamps, and they begin with record a
pub record MayEvict (w : List ℕ) (z : Side) (a gone : ℕ) : Type 0 where
  pub shaped : Shaped w
  pub some : gone ≤ length (side (state_of w) z).stamps
  pub first : a ≡ first_place (side (state_of w) z).stamps

-- stamps have gone since w, `left` are still to go, and those that stand begin with record a
pub record Evicting (w v : List ℕ) (z : Side) (gone left a : ℕ) : Type 0 where
  pub shaped : Shaped v
  pub size : length v ≡ length w
  pub beside : Beside w v
  pub same : drop_stamps left (state_of v) z ≡ drop_stamps gone (state_of w) z
  pub some : left ≤ length (side (state_of v) z).stamps
  pub first : a ≡ first_place (side (state_of v) z).stamps

-- they have gone, and those that remain begin with record r
pub record Evicted (w v : List ℕ) (z : Side) (gone r : ℕ) : Type 0 where
  pub leaves : Leaves w v (drop_stamps gone (state_of w) z)
  pub first : r ≡ first_place (side (drop_stamps gone (state_of w) z) z).stamps

-- ---- a stamp is added

-- it may be, and v is the window of the side's stamps
pub record MayCount (w : List ℕ) (z : Side) (v : WindowCount) (now gone : ℕ) : Type 0 where
  pub may : MayStamp w z now gone
  pub window : Begins v (side (state_of w) z).stamps

-- r is the window of the side's stamps, the new one with them; once its first and its count are the chain's words, the state held is what the rules' `stamp` makes.
-- Until then the chain's words are those of the stamps that are not too old
pub record Counted (w left : List ℕ) (z : Side) (now : ℕ) (r : WindowCount) : Type 0 where
  pub window : r ≡ window_of (side (stamp (state_of w) z now) z).stamps
  pub leaves : Leaves w (put_chain left (stamps_no z) r.first r.count) (stamp (state_of w) z now)
  pub first : head_in left (stamps_no z) ≡ first_place (stamps_kept (state_of w).settings.window now (side (state_of w) z).stamps)
  pub count : count_in left (stamps_no z) ≡ length (stamps_kept (state_of w).settings.window now (side (state_of w) z).stamps)

-- ---- what it tells

-- there is a stamp, and stamps and window are within their limits
pub record MayTell (v : List ℕ) (z : Side) : Type 0 where
  pub shaped : Shaped v
  pub some : 0 < length (side (state_of v) z).stamps
  pub stamps : All (λ (t : Held ℕ). t.value ≤ moment_limit) (side (state_of v) z).stamps
  pub window : (state_of v).settings.window ≤ duration_limit

abbrev pub window_told : Window → RulesWindow
window_told r = record { count = r.count; falls = falls_of r.falls }

-- a stamp may be added, to accepted words
pub record Stampable (w : List ℕ) (z : Side) (now gone : ℕ) : Type 0 where
  pub may : MayStamp w z now gone
  pub accepted : Accepted w

-- the stamp is added, and r is what the rules tell of the side's stamps, the new one with them
pub record Stamped (w left : List ℕ) (z : Side) (now : ℕ) (r : Window) : Type 0 where
  pub leaves : Leaves w left (stamp (state_of w) z now)
  pub tells : window_told r ≡ stamp_tells (state_of w).settings.window (side (stamp (state_of w) z now) z).stamps
