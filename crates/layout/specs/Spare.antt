-- docs/LAYOUT.md, "Header, words 0 to 255": the words without a meaning, and those of free records that have none. Assumes nothing.
use Rattle.std.specs.Prelude.{ℕ, suc, ◌-◌, ◌≤◌, ◌<◌, ◌%◌, ◌/◌, ◌≡◌, Bool, true, ◌&&◌, ◌||◌, List, leb, ltb}
use Rattle.layout.specs.Layout.{state_of}
use Rattle.layout.specs.Places.{Has}

-- 18 to 23, 48 to 63 and 192 to 255. A word that is kept for a later request is one of them until that request lands: 18, 19 (M-180), 20 to 22 (M-160), 48
-- and 49 (head and count of chain 12, M-210), 192 to 223 (M-130). This is the one place that says so: what a call leaves of them (Outcome), and what packing
-- makes 0 (Packed), follow it
unfoldable pub spare : ℕ → Bool
spare i = (leb 18 i && ltb i 24) || (leb 48 i && ltb i 64) || (leb 192 i && ltb i 256)

abbrev pub Spare : ℕ → Type 0
Spare i = spare i ≡ true

-- ---- the records' words that the state leaves open

-- "Of a free record only next and chain number 0 mean anything": word i is the moment, the length or the tag of a free record
abbrev pub Open : List ℕ → ℕ → Type 0
Open w i = (256 ≤ i) × ((0 < i % 4) × Has (suc ((i - 256) / 4)) (state_of w).free)
