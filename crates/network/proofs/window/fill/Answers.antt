-- `network::window::fill` meets its contract. Assumes nothing.
use Rattle.network.proofs.StampLaws.{gone_le, filled}
use Rattle.network.proofs.window.fill.Goals as goal

pub overflow_sub-count : goal.overflow_sub-count
overflow_sub-count c = search gone_le

pub returns : goal.returns
returns c = search filled
