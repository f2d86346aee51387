-- `network::window::stale_stamps` meets its contract. Assumes nothing.
use borrow.Author.Rules.{rules}
use borrow.Author.Tests.{tests}
use mathlib.Core.Logic.{inl}
use Rattle.std.proofs.lemmas.Iterator.Consumers.{count_from_yields_List, YieldsList-at}
use Rattle.std.proofs.lemmas.Iterator.Search.{YieldsList-from_take_while}
use Rattle.queue_event.specs.Chain.{rec_at}
use Rattle.network.proofs.StampLaws.{too_old, walked, walk_fits, gone_all}
use Rattle.network.proofs.window.stale_stamps.Goals as goal

pub count-gone-requires-clause-fits : goal.count-gone-requires-clause-fits
count-gone-requires-clause-fits c = inl (walk_fits _ _ _ _ _ c.args.side.now.view.good c.stamps.ensures.1 c.chain-stamps.ensures.all c.take_while.ensures.source (search rules))

pub returns : goal.returns
unfolding rec_at
returns c =
    gone_all _ _ _ _ c.stamps.ensures.0 c.stamps.ensures.1 _ _ _ _ c.chain-stamps.ensures.all
    (count_from_yields_List _ _ c.count-gone.ensures.ran
    (YieldsList-from_take_while _ (too_old c.args.window.0 c.args.time.0) (YieldsList-at c.take_while.ensures.source (walked _)) c.take_while.ensures.closure c.take_while.ensures.done (λ x b q k. search (rules, tests))))
