-- `round::round::act` meets its contract. Assumes nothing.
use Rattle.round.proofs.ActLaws.{aggregate_due, aggregate_acted, block_due, block_acted, event_due, event_acted, timer_due, timer_acted, action_due, action_acted, act_rounds}
use Rattle.round.proofs.round.act.Goals as goal

pub take_aggregate-requires : goal.take_aggregate-requires
take_aggregate-requires c = search aggregate_due

pub returns-in-Aggregate : goal.returns-in-Aggregate
returns-in-Aggregate c = search aggregate_acted

pub end_block-requires-clause-due : goal.end_block-requires-clause-due
end_block-requires-clause-due c = search block_due

pub end_block-requires-clause-rounds_small : goal.end_block-requires-clause-rounds_small
end_block-requires-clause-rounds_small c = act_rounds _ _ _ _ c.requires

pub returns-in-Block : goal.returns-in-Block
returns-in-Block c = search block_acted

pub take_event-e-requires : goal.take_event-e-requires
take_event-e-requires c = search event_due

pub overflow_add-result : goal.overflow_add-result
overflow_add-result c = record { fits = act_rounds _ _ _ _ c.requires }

pub returns-in-Event : goal.returns-in-Event
returns-in-Event c = search event_acted

pub do_internal_timer-requires : goal.do_internal_timer-requires
do_internal_timer-requires c = search timer_due

pub returns-in-Timer : goal.returns-in-Timer
returns-in-Timer c = search timer_acted

pub do_scheduled_action-requires : goal.do_scheduled_action-requires
do_scheduled_action-requires c = search action_due

pub returns-in-Action : goal.returns-in-Action
returns-in-Action c = search action_acted
