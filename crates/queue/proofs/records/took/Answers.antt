-- `queue::records::took` meets its contract. Assumes nothing.
use Prim.Native.Nat.{◌+◌}
use mathlib.Core.Path.{ap, ◌∙◌}
use Rattle.layout.specs.Changes.{put_chain}
use Rattle.queue.proofs.Taking.{chain_stored}
use Rattle.queue.proofs.records.took.Goals as goal

pub returns : goal.returns
returns c =
    chain_stored _ _ _ _ _ _ _ c.set_chain-2.ensures c.more.ensures.head c.more.ensures.count
    ∙ ap (λ x. put_chain x c.args.k c.args.new (c.args.chain.count + 1)) (chain_stored _ _ _ _ _ _ _ c.set_chain.ensures c.less.ensures.head c.less.ensures.count)
