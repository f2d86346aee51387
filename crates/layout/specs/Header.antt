-- docs/LAYOUT.md, "Header, words 0 to 255": what the settings, the sums and the slots may hold, and what is reserved for them. Assumes nothing.
use Rattle.std.specs.Prelude.{ℕ, zero, suc, min, ◌+◌, ◌*◌, ◌≤◌, ◌<◌, ◌%◌, ◌/◌, ◌≡◌, List, [], ◌∷◌, get_or}
use Rattle.rules.specs.Limits.{moment_limit, duration_limit, machine_limit, rate_limit}

-- ---- words 0 to 17

-- the limit of each, in the order of docs/LAYOUT.md: network delay, network rate, queue rate, window; then for each side action delay, reporting delay,
-- machines, sum, block end + 1 and bypassable flag; ended mark; round total
abbrev pub limits : List ℕ
limits =
    duration_limit ∷ rate_limit ∷ rate_limit ∷ duration_limit
    ∷ duration_limit ∷ duration_limit ∷ duration_limit ∷ duration_limit
    ∷ machine_limit ∷ machine_limit ∷ moment_limit ∷ moment_limit
    ∷ suc moment_limit ∷ suc moment_limit ∷ 1 ∷ 1 ∷ 1 ∷ moment_limit ∷ []

-- "all values inside their limits", of these words
abbrev pub Limited : List ℕ → Type 0
Limited h = (i : ℕ) → i < 18 → get_or h i 0 ≤ get_or limits i 0

-- "8 + side | machines of the side"
abbrev pub machines_of : List ℕ → ℕ → ℕ
machines_of h side = get_or h (8 + side) 0

-- "12 + side | 0 where the side has no block, else the block's end + 1"
abbrev pub block_of : List ℕ → ℕ → ℕ
block_of h side = get_or h (12 + side) 0

-- ---- slots, 16 for each side: slot j is that of machine j % 16 of side j / 16

-- "64 + 16 side + m | timer of machine m: 0 for none, else its moment + 1"
abbrev pub timer_of : List ℕ → ℕ → ℕ
timer_of h j = get_or h (64 + j) 0

-- "96 + 3 (16 side + m), and the two words after it | action of machine m: kind and flags; moment; duration"
abbrev pub action_of : List ℕ → ℕ → ℕ
action_of h j = get_or h (96 + 3 * j) 0

abbrev pub action_moment : List ℕ → ℕ → ℕ
action_moment h j = get_or h (97 + 3 * j) 0

abbrev pub action_duration : List ℕ → ℕ → ℕ
action_duration h j = get_or h (98 + 3 * j) 0

-- "An action's first word is kind + 4 bypass + 8 replace, with kind 1 for `SendPadding` and 2 for `BlockOutgoing` [..] An empty slot is three zero words.
-- A `SendPadding` has duration 0."
pub record ActionShape (word moment duration : ℕ) : Type 0 where
  pub flags : word ≤ 15
  pub kind : word % 4 ≡ 3 → ⊥
  pub padding : word % 4 ≤ 1 → duration ≡ 0
  pub empty : word % 4 ≡ 0 → (word ≡ 0) × (moment ≡ 0)

-- moment and duration within their limits
pub record ActionOk (word moment duration : ℕ) : Type 0 where
  pub shape : ActionShape word moment duration
  pub moments : moment ≤ moment_limit
  pub durations : duration ≤ duration_limit

-- "An empty slot is three zero words", and no timer
pub record SlotEmpty (h : List ℕ) (j : ℕ) : Type 0 where
  pub timer : timer_of h j ≡ 0
  pub action : action_of h j ≡ 0
  pub moment : action_moment h j ≡ 0
  pub duration : action_duration h j ≡ 0

-- a slot's words; "slots at or above a side's machine count empty"
pub record SlotOk (h : List ℕ) (j : ℕ) : Type 0 where
  pub timer : timer_of h j ≤ suc moment_limit
  pub action : ActionOk (action_of h j) (action_moment h j) (action_duration h j)
  pub no_timers : machines_of h (j / 16) ≤ j % 16 → timer_of h j ≡ 0
  pub no_actions : machines_of h (j / 16) ≤ j % 16 → action_of h j ≡ 0

abbrev pub SlotsOk : List ℕ → Type 0
SlotsOk h = (j : ℕ) → j < 32 → SlotOk h j

-- ---- "Reserved = 3 for each side with a block set, 1 for each timer held, 4 for each action held.", as the code reckons it. It is the state's (proofs/Counts)

-- 1 for a word that is set
abbrev pub held : ℕ → ℕ
held x = min x 1

-- what the slots below n keep in reserve
unfoldable pub slots_room : List ℕ → ℕ → ℕ
slots_room h zero = 0
slots_room h (suc j) = slots_room h j + (held (timer_of h j) + 4 * held (action_of h j))

unfoldable pub reserved : List ℕ → ℕ
reserved h = 3 * held (block_of h 0) + 3 * held (block_of h 1) + slots_room h 32
