-- `delay::waiting::any_behind` meets its contract. Assumes nothing.
use Rattle.delay.proofs.Packets.{rest_sorted, any_empty}
use Rattle.delay.proofs.waiting.any_behind.Goals as goal

pub returns-in_default : goal.returns-in_default
returns-in_default c = any_empty _ _ _ _ _ c.chain-k.ensures.0 c.chain-k.ensures.1 _ c.chain-behind.ensures.all _ _ c.in_default.ensures.steps.0

pub any_within-requires : goal.any_within-requires
any_within-requires c = rest_sorted _ _ _ _ _ c.chain-k.ensures.0 c.chain-k.ensures.1 _ c.chain-behind.ensures.all c.args.side.now.view.good _ _ c.in-Some.ensures.steps.0
