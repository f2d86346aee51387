-- `queue::peek::ByKey::earlier` meets its contract. Assumes nothing.
use mathlib.Core.Path.{◌∙◌}
use Rattle.queue_event.proofs.Pairs.{pair_lt}
use Rattle.queue.proofs.peek.ByKeyOrder.earlier.Goals as goal

pub returns : goal.returns
returns c = c.lt.ensures ∙ pair_lt c.args.a.moment.0 c.args.a.rank c.args.b.moment.0 c.args.b.rank
