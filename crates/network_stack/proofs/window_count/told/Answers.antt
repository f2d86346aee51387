-- `network_stack::window_count::told` meets its contract. Assumes nothing.
use Rattle.network_stack.proofs.TellLaws.{oldest_in, oldest_small, tells, window_small}
use Rattle.network_stack.proofs.window_count.told.Goals as goal

pub record-requires-clause-within : goal.record-requires-clause-within
record-requires-clause-within c = oldest_in _ _ _ c.requires c.stamps-k.ensures _ _ c.of-chain.ensures.head c.of-chain.ensures.count

pub invariant_of-oldest : goal.invariant_of-oldest
invariant_of-oldest c = record { within = oldest_small _ _ _ c.requires c.stamps-k.ensures _ _ c.of-chain.ensures.head c.of-chain.ensures.count _ _ _ c.record.ensures.records c.record.ensures.at c.moment.ensures }

pub invariant_of-window : goal.invariant_of-window
invariant_of-window c = record { within = search window_small }

pub returns : goal.returns
returns c = tells _ _ _ c.requires c.stamps-k.ensures _ _ c.of-chain.ensures.head c.of-chain.ensures.count _ _ _ c.record.ensures.records c.record.ensures.at c.moment.ensures _ c.too_old_from-falls.ensures
