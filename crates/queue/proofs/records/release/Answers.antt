-- `queue::records::release` meets its contract. Assumes nothing.
use Rattle.queue.proofs.Taking.{release_pop, release_more, release_some, release_done, chain_stored}
use Rattle.queue.proofs.records.release.Goals as goal

pub pop_in-next-requires : goal.pop_in-next-requires
pop_in-next-requires c = release_pop _ _ c.requires _ c.of-chain.ensures.head

pub more-requires : goal.more-requires
more-requires c = release_more _ _ c.requires _ c.of-free.ensures.count

pub less-requires : goal.less-requires
less-requires c = release_some _ _ c.requires _ c.of-chain.ensures.count

pub returns : goal.returns
returns c =
    release_done _ _ _ _ _ _ _ _ _ _ c.requires c.of-free.ensures.head c.of-free.ensures.count c.of-chain.ensures.head c.of-chain.ensures.count c.pop_in-next.ensures
    (chain_stored _ _ _ _ _ _ _ c.set_chain.ensures c.more.ensures.head c.more.ensures.count) (chain_stored _ _ _ _ _ _ _ c.set_chain-2.ensures c.less.ensures.head c.less.ensures.count)
