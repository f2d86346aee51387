-- What is proved of the rules, each theorem in document 01's words (of packing, of the moments of aggregates by cases and of when the packet count falls,
-- document 02's), with the law that proves it. The words are those of the crate rules; of this crate's own: `Accepted` (a state that calls may get), `Once` (each record from 1 to
-- R stands once), `times` (how often a record stands), `state_after` (the state after a round), `records_taken` (the free records that a round takes),
-- `Alike` (different in record numbers alone). The other theorems stand in specs/Theorems.
use Rattle.std.specs.Prelude.{ℕ, ◌+◌, ◌≤◌, ◌<◌, suc, ◌≡◌, ◌⊎◌, true, false, List, length}
use Rattle.std.proofs.Common.{arith}
use Rattle.std.proofs.Math.Option.{none}
use Rattle.rules.specs.Arguments.{Call, pick_next}
use Rattle.rules.specs.Opening.{Opening, open_refusal, opened}
use Rattle.rules.specs.State.{State, reserved, rounds_left, used}
use Rattle.rules.specs.CallLists.{after_all, answers, carried, finished_states, is_refused, lacks_room, nothing_to_take, round_states, rounds_of, says_nothing}
use Rattle.rules.specs.Calls.{call}
use Rattle.rules.specs.ChoiceRound.{candidate, next, round, fits, round_sums}
use Rattle.rules.specs.Choice.{choose, refused, rounds}
use Rattle.rules.specs.Packing.{packed}
use Rattle.laws.specs.Accepted.{Accepted, only, times}
use Rattle.laws.specs.Unplaced.{Alike}
use Rattle.laws.specs.Packed.{packed_alike}
use Rattle.laws.specs.Ended.{below_ten, ten_ends}
use Rattle.laws.proofs.Ended.{call_marks, choice_numbers}
use Rattle.laws.proofs.AcceptedKept.{call_accepted}
use Rattle.laws.proofs.Rounds.{call_carries, choice_has_room, choice_ten, enough_states}
use Rattle.laws.specs.UnplacedCalls.{call_reads_values}
use Rattle.laws.proofs.UnplacedCalls.{list_reads_values}
use Rattle.laws.specs.Falls.{state_after}
use Rattle.laws.proofs.Falls.{enough, room_kept, round_falls}
use Rattle.laws.specs.RecordsTaken.{free_reserved, records_taken, records_given}
use Rattle.laws.proofs.RecordsTaken.{round_takes_free, round_takes}
use Rattle.laws.specs.RecordNumbers.{no_other_record}
use Rattle.laws.proofs.Opened.{opened_accepted}
use Rattle.laws.proofs.NothingLeft.{pick_next_exactly}
use Rattle.laws.proofs.RecordsRound.{round_same}
use Rattle.laws.specs.Theorems.{KeepsFinished}

-- A round that does not end its choice lowers A + 3B + T + 4S by at least 1.
pub round_lowers : (s t : State) (now : ℕ) → round s now ≡ next t → rounds_left t + 1 ≤ rounds_left s
round_lowers s t now h = omega (arith, round_falls s now t h)

-- Used + reserved never grows in a round.
pub used_and_reserved_never_grow :
    (s : State) (now : ℕ) → used (state_after (round s now)) + reserved (state_after (round s now)) ≤ used s + reserved s
used_and_reserved_never_grow s now = room_kept s now

-- A round never lacks a free record: those that it takes are at most those that are free.
pub round_never_lacks_a_record : (s : State) (now : ℕ) → Accepted s → records_taken s now (candidate s now) ≤ length s.free
round_never_lacks_a_record s now h = round_takes_free s now h

-- and the records used rise by just those, less the record that it gives back with an aggregate or an event
pub round_takes_records :
    (s : State) (now : ℕ) → Accepted s → fits (round_sums s now (candidate s now)) ≡ true
    → used (state_after (round s now)) + records_given (candidate s now) ≡ used s + records_taken s now (candidate s now)
round_takes_records s now h f = round_takes s now h f

-- A round leaves every record number in the chains and among the free ones as often as it was, so it takes none that is not free and loses none.
pub round_keeps_records : (s : State) (now r : ℕ) → Accepted s → times r (state_after (round s now)) ≡ times r s
round_keeps_records s now r h = round_same s now h.sound (free_reserved s h) (only r)

-- The fuel of a choice suffices: any larger fuel gives the same answer and the same state.
pub fuel_suffices : (f now : ℕ) (s : State) → rounds_left s < f → rounds f now 0 s ≡ choose s now
unfolding choose
fuel_suffices f now s h = enough f (suc (rounds_left s)) now 0 s h (omega arith)

-- and the same finished rounds
pub fuel_suffices_for_states : (f now : ℕ) (s : State) → rounds_left s < f → finished_states f now s ≡ round_states s now
fuel_suffices_for_states f now s h = enough_states f (suc (rounds_left s)) now s h (omega arith)

-- A choice that is not refused says "nothing left" exactly when no event was queued, no side blocked, and no action or timer stood at or after
-- the given time.
pub nothing_left_exactly_when :
    (s : State) (now : ℕ) → is_refused (call s (pick_next now)).answer ≡ false → says_nothing (call s (pick_next now)).answer ≡ nothing_to_take s now
nothing_left_exactly_when s now = pick_next_exactly s now

-- A choice never lacks room: used + reserved is at most R as it begins and after each round it finishes.
pub choice_never_lacks_room : (s : State) (now : ℕ) → Accepted s → lacks_room s now ≡ false
choice_never_lacks_room s now h = choice_has_room s now h.room

-- of the call
pub choice_with_10 : (s : State) (now k : ℕ) → (call s (pick_next now)).answer ≡ refused 10 k → KeepsFinished s now k
choice_with_10 s now k e = let h = choice_ten s now k e in record { rounds = h.0; state = h.1 }

-- Every call from an accepted state leaves an accepted state.
pub call_leaves_accepted : (s : State) (c : Call) → Accepted s → Accepted (call s c).state
call_leaves_accepted s c h = call_accepted s c h

-- 0 ends a chain and is no record, and none is above R
pub no_other_number : (s : State) (r : ℕ) → Accepted s → (r ≡ 0) ⊎ (s.room < r) → times r s ≡ 0
no_other_number s r h = no_other_record s r h

-- "A choice's answer carries exactly its own" rounds; every other call's carries 0.
pub answer_carries_its_rounds : (s : State) (c : Call) → carried (call s c).answer ≡ rounds_of s c
answer_carries_its_rounds s c = call_carries s c

-- Refusals other than 10 leave the state and have 0 rounds.
pub refusal_leaves_the_state :
    (s : State) (c : Call) (n k : ℕ) → (call s c).answer ≡ refused n k → (n ≡ 10 → ⊥) → (k ≡ 0) × ((call s c).state ≡ s)
refusal_leaves_the_state s c n k = below_ten s (call s c).state (call s c).answer n k (call_marks s c)

-- "A choice never gives 9": its numbers are 3, 7 and 10.
pub choice_never_gives_9 : (s : State) (now n k : ℕ) → (call s (pick_next now)).answer ≡ refused n k → (n ≡ 3) ⊎ ((n ≡ 7) ⊎ (n ≡ 10))
choice_never_gives_9 s now n k e = choice_numbers s now n k e

-- "Number 10 sets the ended mark."
pub ten_sets_the_mark : (s : State) (c : Call) (k : ℕ) → (call s c).answer ≡ refused 10 k → (call s c).state.ended ≡ true
ten_sets_the_mark s c k = ten_ends s (call s c).state (call s c).answer k (call_marks s c)

-- Decisions read values only: a call of two states that differ in record numbers alone gives equal answers, and states that again differ in
-- record numbers alone.
pub call_reads_only_values : (s t : State) (c : Call) → Alike s t → ((call s c).answer ≡ (call t c).answer) × Alike (call s c).state (call t c).state
call_reads_only_values s t c h = call_reads_values s t c h

-- Opening that is not refused leaves an accepted state, each record once.
pub opening_leaves_accepted : (o : Opening) (words : ℕ) → open_refusal words o ≡ none → Accepted (opened o words)
opening_leaves_accepted o words h = opened_accepted o words h

-- The same of any list of calls: equal answers, and states that differ in record numbers alone.
pub list_reads_only_values : (l : List Call) (s t : State) → Alike s t → (answers s l ≡ answers t l) × Alike (after_all s l) (after_all t l)
list_reads_only_values l s t h = list_reads_values l s t h

-- "A packed state gives the same further answers as its original."
pub packed_state_answers_the_same : (l : List Call) (s : State) → answers (packed s) l ≡ answers s l
packed_state_answers_the_same l s = (list_reads_values l (packed s) s (packed_alike s)).0
