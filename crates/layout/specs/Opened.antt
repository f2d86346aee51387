-- Document 01, "Opening leaves every record free, ..": every word of a block after opening, as docs/LAYOUT.md orders them. Assumes nothing.
use Rattle.std.specs.Prelude.{ℕ, zero, suc, ◌+◌, ◌*◌, ◌/◌, ◌%◌, List, [], ◌∷◌, ◌++◌, eqb, ltb, get_or, if◌then◌else◌}
use Rattle.std.proofs.Math.Option.{Option, none, some}
use Rattle.rules.specs.Opening.{Opening, records_in}

-- the n words that f gives
unfoldable pub table : ℕ → (ℕ → ℕ) → List ℕ
table zero f = []
table (suc n) f = f 0 ∷ table n (λ (i : ℕ). f (suc i))

-- a rate, "0 for absent"
abbrev pub rate_word : Option ℕ → ℕ
rate_word none = 0
rate_word (some p) = p

-- words 0 to 25: the settings; sums, blocks, flags, ended mark, round total and the words without a meaning 0; head and count of the free chain, which
-- starts with record 1 and has all r
abbrev pub first_words : Opening → ℕ → List ℕ
first_words o r =
    o.settings.network_delay ∷ rate_word o.settings.network_rate ∷ rate_word o.settings.queue_rate ∷ o.settings.window
    ∷ o.client.action_delay ∷ o.server.action_delay
    ∷ o.client.reporting_delay ∷ o.server.reporting_delay
    ∷ o.client.machines ∷ o.server.machines
    ∷ 0 ∷ 0 ∷ 0 ∷ 0 ∷ 0 ∷ 0 ∷ 0 ∷ 0
    ∷ 0 ∷ 0 ∷ 0 ∷ 0 ∷ 0 ∷ 0
    ∷ 1 ∷ r ∷ []

-- word i of the header: 0 from 26 on, for the other chains, the slots and the words without a meaning
abbrev pub head_word : Opening → ℕ → ℕ → ℕ
head_word o r i = get_or (first_words o r) i 0

-- word i after the header: "Opening chains the free records upward from 1 and zeroes the rest of them." Next of record i / 4 + 1 is the one above it, and 0
-- for the last of r
abbrev pub record_word : ℕ → ℕ → ℕ
record_word r i = if eqb (i % 4) 0 then if ltb (i / 4 + 1) r then i / 4 + 2 else 0 else 0

-- the block of n words
unfoldable pub opened_words : Opening → ℕ → List ℕ
opened_words o n = table 256 (head_word o (records_in n)) ++ table (4 * records_in n) (record_word (records_in n))
