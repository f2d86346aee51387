-- `network_stack::padding::take_over` meets its contract. Assumes nothing.
use Rattle.network_stack.proofs.TakeLaws.{take_may, again_may, take_done}
use Rattle.network_stack.proofs.padding.take_over.Goals as goal

pub release-requires : goal.release-requires
release-requires c = search take_may

pub push_sim-requires : goal.push_sim-requires
push_sim-requires c = search again_may

pub returns : goal.returns
returns c = search take_done
