-- `network_stack::padding::make` meets its contract. Assumes nothing.
use Rattle.network_stack.proofs.MakeLaws.{own_may, pad_own, pad_dropped, replace_may, pad_replaced}
use Rattle.network_stack.proofs.padding.make.Goals as goal

pub push_sim-requires : goal.push_sim-requires
push_sim-requires c = search own_may

pub replace-requires : goal.replace-requires
replace-requires c = search replace_may

pub returns-in-Own : goal.returns-in-Own
returns-in-Own c = search pad_own

pub returns-in-Dropped : goal.returns-in-Dropped
returns-in-Dropped c = search pad_dropped

pub returns-in-Replaces : goal.returns-in-Replaces
returns-in-Replaces c = search pad_replaced
