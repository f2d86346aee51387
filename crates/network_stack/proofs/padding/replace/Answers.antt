-- `network_stack::padding::replace` meets its contract. Assumes nothing.
use Rattle.network_stack.proofs.MakeLaws.{replace_aggregate}
use Rattle.network_stack.proofs.padding.replace.Goals as goal

pub push_aggregate_delay-requires : goal.push_aggregate_delay-requires
push_aggregate_delay-requires c = search replace_aggregate
