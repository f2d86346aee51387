-- `network_stack::tunnel::make` meets its contract. Assumes nothing.
use Rattle.network_stack.proofs.MakeLaws.{send_stamp, send_aggregate, send_push, send_done}
use Rattle.network_stack.proofs.tunnel.make.Goals as goal

pub stamp-window-requires : goal.stamp-window-requires
stamp-window-requires c = search send_stamp

pub push_aggregate_delay-requires : goal.push_aggregate_delay-requires
push_aggregate_delay-requires c = search send_aggregate

pub push_sim-requires : goal.push_sim-requires
push_sim-requires c = search send_push

pub returns : goal.returns
returns c = search send_done
