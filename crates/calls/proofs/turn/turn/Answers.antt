-- `calls::turn::turn` meets its contract. Assumes nothing.
use Rattle.calls.proofs.RowLaws.{turn_none, turn_refused, turn_long}
use Rattle.calls.proofs.turn.turn.Goals as goal

pub returns-in_default : goal.returns-in_default
returns-in_default c = turn_refused c.args.block.now _ c.requires c.pick_next_on-a.result _ c.pick_next_on-a.ensures _ _ c.in_default.is c.choice_row.ensures

pub returns-in_default-event : goal.returns-in_default-event
returns-in_default-event c = turn_none c.args.block.now _ c.requires c.pick_next_on-a.result _ c.pick_next_on-a.ensures _ _ c.in-Ok.is c.in_default-event.is c.choice_row-in_default-event.ensures

pub returns : goal.returns
returns c = turn_long c.args.block.now _ c.requires c.pick_next_on-a.result _ c.pick_next_on-a.ensures _ _ c.in-Ok.is c.in-Some.is c.sim_network_stack_on-b.result _ _ c.sim_network_stack_on-b.ensures c.turn_row.ensures
