-- `queue_event::chain::Linked::seek` meets its contract. Assumes nothing.
use borrow.Author.Rules.{rules}
use borrow.Author.Tests.{tests}
use mathlib.Core.Path.{sym, subst}
use Rattle.std.proofs.lemmas.Iterator.{items_from_drains}
use Rattle.std.proofs.lemmas.Iterator.Consumers.{YieldsList-at}
use Rattle.std.proofs.lemmas.Iterator.Search.{YieldsList-from_take_while}
use Rattle.queue_event.specs.Chain.{rec_at}
use Rattle.queue_event.specs.Walks.{Finds}
use Rattle.queue_event.proofs.Walks.{walked, before, last_before}
use Rattle.queue_event.proofs.chain.Linked.seek.Goals as goal

pub returns : goal.returns
unfolding rec_at
returns c =
    let (xs, d, e) = c.last.ensures.ran in
    let test = before c.args.self.now.records.now c.args.moment.0 c.args.tag in
    let seen = items_from_drains xs (d.1.0, d.1.1, λ _. (d.0, d.1.2))
    (YieldsList-from_take_while _ test (YieldsList-at c.take_while.ensures.source (walked _)) c.take_while.ensures.closure c.take_while.ensures.done (λ x b q k. search (rules, tests))) in
    subst (Finds _ _) (sym e) (last_before _ _ _ _ xs _ tt seen)
