-- `network::aggregate::push_aggregate_delay` meets its contract. Assumes nothing.
use Rattle.network.proofs.AggregateLaws.{delay_none, second_may, delay_two}
use Rattle.network.proofs.aggregate.push_aggregate_delay.Goals as goal

pub returns-in_default : goal.returns-in_default
returns-in_default c = search delay_none

pub push_aggregate-requires-2 : goal.push_aggregate-requires-2
push_aggregate-requires-2 c = search second_may

pub returns : goal.returns
returns c = search delay_two
