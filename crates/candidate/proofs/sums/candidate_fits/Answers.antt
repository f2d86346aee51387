-- `candidate::sums::candidate_fits` meets its contract. Assumes nothing.
use mathlib.Core.Logic.{inl, inr}
use Rattle.candidate.proofs.ActionSums.{stands_end, stands_moment, stands_duration, case_aggregate, case_block, case_event, case_timer, case_action}
use Rattle.candidate.proofs.sums.candidate_fits.Goals as goal

pub block_fits-requires : goal.block_fits-requires
block_fits-requires c = search stands_end

pub action_fits-requires-clause-moment_small : goal.action_fits-requires-clause-moment_small
action_fits-requires-clause-moment_small c = search stands_moment

pub action_fits-requires-clause-duration_small : goal.action_fits-requires-clause-duration_small
action_fits-requires-clause-duration_small c = search stands_duration

pub returns-in-Aggregate : goal.returns-in-Aggregate
returns-in-Aggregate c = search (case_aggregate, c.aggregate_fits.ensures)

pub returns-in-Block : goal.returns-in-Block
returns-in-Block c = search (case_block, c.block_fits.ensures)

pub returns-in-Event : goal.returns-in-Event
returns-in-Event c = elim c.in-Event.is [ inl w ↦ search (case_event, w.1) | inr w ↦ search (case_timer, w.1) ]

pub returns-in-Action : goal.returns-in-Action
returns-in-Action c = search (case_action, c.action_fits.ensures)
