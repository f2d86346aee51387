-- Document 02, M-100: every word of a block in its packed form, as docs/LAYOUT.md orders them. Chains in the order of their numbers, records numbered upward
-- from 1, the free chain last, words without a meaning 0. Assumes nothing.
use Rattle.std.specs.Prelude.{ℕ, zero, suc, ◌+◌, ◌-◌, ◌*◌, ◌/◌, ◌%◌, ◌&&◌, List, [], ◌∷◌, ◌++◌, eqb, leb, ltb, length, get_or, replicate, take, drop, if◌then◌else◌}
use Rattle.queue_event.specs.Chain.{Rec, contents}
use Rattle.layout.specs.Records.{chain_count, head_of, count_of}
use Rattle.layout.specs.Accepted.{room}
use Rattle.layout.specs.Spare.{spare}
use Rattle.layout.specs.Opened.{table}

-- ---- chains, by what they hold: c k is what stands in chain k, from its head

-- the number of the first of these records, which stand from record p on; 0 for none
abbrev pub first_of : ℕ → List Rec → ℕ
first_of p [] = 0
first_of p (x ∷ l) = p

-- their words from record p on: next, moment, length and tag of each, linked to the one after it, the last to 0
unfoldable pub chain_words : ℕ → List Rec → List ℕ
chain_words p [] = []
chain_words p (x ∷ l) = first_of (suc p) l ∷ x.moment ∷ x.size ∷ x.tag ∷ chain_words (suc p) l

-- the records of chains 1 to k
unfoldable pub used_to : (ℕ → List Rec) → ℕ → ℕ
used_to c zero = 0
used_to c (suc k) = used_to c k + length (c (suc k))

-- the words of chains 1 to k: "records numbered upward from 1"
unfoldable pub used_words : (ℕ → List Rec) → ℕ → List ℕ
used_words c zero = []
used_words c (suc k) = used_words c k ++ chain_words (suc (used_to c k)) (c (suc k))

-- all records that are used: those of every chain but the free one
abbrev pub used_in : (ℕ → List Rec) → ℕ
used_in c = used_to c (chain_count - 1)

-- n records of zeros
abbrev pub zero_recs : ℕ → List Rec
zero_recs n = replicate n (record { moment = 0; size = 0; tag = 0 })

-- "free records zeroed but for their links and chained upward": those of r that are not used are one more chain
abbrev pub free_in : (ℕ → List Rec) → ℕ → List Rec
free_in c r = zero_recs (r - used_in c)

-- ---- the words

-- the r records
unfoldable pub packed_records : (ℕ → List Rec) → ℕ → List ℕ
packed_records c r = used_words c (chain_count - 1) ++ chain_words (suc (used_in c)) (free_in c r)

-- what stands in chain k: "0 | free records"
abbrev pub packed_chain : (ℕ → List Rec) → ℕ → ℕ → List Rec
packed_chain c r zero = free_in c r
packed_chain c r (suc k) = c (suc k)

-- the record that chain k starts at
abbrev pub packed_start : (ℕ → List Rec) → ℕ → ℕ
packed_start c zero = suc (used_in c)
packed_start c (suc k) = suc (used_to c k)

-- "24 + 2k, 25 + 2k | head and count of chain k"
abbrev pub packed_head : (ℕ → List Rec) → ℕ → ℕ → ℕ
packed_head c r k = first_of (packed_start c k) (packed_chain c r k)

abbrev pub packed_count : (ℕ → List Rec) → ℕ → ℕ → ℕ
packed_count c r k = length (packed_chain c r k)

-- word i of a header that has the words of f, with these heads and counts: "Words without a meaning become 0"
unfoldable pub header_word : (ℕ → ℕ) → (ℕ → ℕ) → (ℕ → ℕ) → ℕ → ℕ
header_word f heads counts i =
    if spare i
    then 0
    else if leb 24 i && ltb i (24 + 2 * chain_count) then (if eqb (i % 2) 0 then heads ((i - 24) / 2) else counts ((i - 24) / 2)) else f i

-- the same with those of the packed chains; all else stays
abbrev pub packed_word : (ℕ → ℕ) → (ℕ → List Rec) → ℕ → ℕ → ℕ
packed_word f c r = header_word f (packed_head c r) (packed_count c r)

-- a block of r records with these header words and these chains
unfoldable pub packed_from : (ℕ → ℕ) → (ℕ → List Rec) → ℕ → List ℕ
packed_from f c r = table 256 (packed_word f c r) ++ packed_records c r

-- what stands in chain k of a header and the records after it
abbrev pub chain_recs : List ℕ → List ℕ → ℕ → List Rec
chain_recs h rs k = contents rs (count_of h k) (head_of h k)

-- the packed form of the words w
unfoldable pub packed_words : List ℕ → List ℕ
packed_words w = packed_from (λ (i : ℕ). get_or w i 0) (chain_recs (take 256 w) (drop 256 w)) (room (drop 256 w))
