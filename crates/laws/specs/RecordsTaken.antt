-- A round never lacks a free record: what it takes is reserved, and what is reserved is free.
use Rattle.std.specs.Prelude.{ℕ, ◌+◌, ◌≤◌, eqb, length, if◌then◌else◌}
use Rattle.std.proofs.Common.{arith}
use Rattle.rules.specs.State.{State, side, reserved}
use Rattle.rules.specs.ChoiceRound.{Candidate, an_aggregate, a_block, an_event, a_timer, an_action, none_left, end_aggregates}
use Rattle.laws.specs.Accepted.{Accepted}

-- what is reserved is free
pub free_reserved : (s : State) → Accepted s → reserved s ≤ length s.free
free_reserved s h = omega (arith, h.room, h.whole)

-- the records that a round takes from the free ones: one for the event of a timer or an action; at a block's end one for each aggregate, and
-- one for `BlockingEnd` if it is queued
abbrev pub records_taken : State → ℕ → Candidate → ℕ
records_taken s now (an_aggregate a) = 0
records_taken s now (a_block k) = length (end_aggregates s now k) + (if eqb (side s k.side).fixed.reporting_delay 0 then 0 else 1)
records_taken s now (an_event h) = 0
records_taken s now (a_timer z t) = 1
records_taken s now (an_action z a) = 1
records_taken s now none_left = 0

-- the records that it gives back: an aggregate's, or that of the event it returns
abbrev pub records_given : Candidate → ℕ
records_given (an_aggregate a) = 1
records_given (a_block k) = 0
records_given (an_event h) = 1
records_given (a_timer z t) = 0
records_given (an_action z a) = 0
records_given none_left = 0
