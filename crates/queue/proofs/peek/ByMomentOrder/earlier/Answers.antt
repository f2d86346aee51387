-- `queue::peek::ByMoment::earlier` meets its contract. Assumes nothing.
use mathlib.Core.Path.{◌∙◌}
use Rattle.rules.specs.Basics.{before}
use Rattle.queue_event.proofs.Pairs.{pair_lt}
use Rattle.queue.proofs.peek.ByMomentOrder.earlier.Goals as goal

pub returns : goal.returns
returns c =
    let a = c.args.a.moment.0 in
    let b = c.args.b.moment.0 in
    c.lt.ensures ∙ pair_lt a c.rank.result b c.rank-2.result ∙ (λ d. before a (c.rank.ensures d) b (c.rank-2.ensures d))
