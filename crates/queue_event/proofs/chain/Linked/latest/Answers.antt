-- `queue_event::chain::Linked::latest` meets its contract. Assumes nothing.
use borrow.Author.Rules.{rules}
use borrow.Author.Tests.{tests}
use mathlib.Core.Path.{ap, ◌∙◌}
use Rattle.std.proofs.lemmas.Iterator.Consumers.{YieldsList-at, fold_from_yields_List}
use Rattle.std.proofs.lemmas.Iterator.Search.{YieldsList-from_take_while}
use Rattle.queue_event.specs.Chain.{rec_at}
use Rattle.queue_event.proofs.Walks.{walked, reached, longer, latest_reached}
use Rattle.queue_event.proofs.chain.Linked.latest.Goals as goal

pub returns : goal.returns
unfolding rec_at
returns c =
    let rs = c.args.self.now.records.now in
    let from = c.args.reach.from.0 in
    let margin = c.args.reach.margin.0 in
    let f = fold_from_yields_List _ (longer rs from margin) _ _ c.fold.ensures.ran
    (YieldsList-from_take_while _ (reached rs from margin) (YieldsList-at c.take_while.ensures.source (walked _)) c.take_while.ensures.closure c.take_while.ensures.done (λ x b q k. search (rules, tests)))
    (λ a x b q k. search (rules, tests)) in
    ap (λ m. m.0) f ∙ latest_reached rs from margin _ c.requires _
