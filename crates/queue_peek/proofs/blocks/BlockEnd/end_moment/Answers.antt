-- `queue_peek::blocks::BlockEnd::end_moment` meets its contract. Assumes nothing.
use native.Mathlib.Omega.{arith}
use Rattle.moment.proofs.Order.{max_is}
use Rattle.queue_peek.proofs.blocks.BlockEnd.end_moment.Goals as goal

pub returns : goal.returns
returns c = omega (arith, max_is c.max.result c.args.self.end c.args.time c.max.ensures)
