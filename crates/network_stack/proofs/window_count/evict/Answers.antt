-- `network_stack::window_count::evict` meets its contract. Assumes nothing.
use mathlib.Core.Path.{◌∙◌}
use Rattle.queue_event.specs.Words.{next_of}
use Rattle.network_stack.proofs.EvictLaws.{evict_in, evict_may, evict_turn, evict_done}
use Rattle.network_stack.proofs.window_count.evict.Goals as goal

pub record-requires-clause-within : goal.record-requires-clause-within
record-requires-clause-within c = search evict_in

pub release-requires : goal.release-requires
release-requires c = search evict_may

pub loop-preserved : goal.loop-preserved
loop-preserved c =
    evict_turn _ _ _ _ _ _ c.loop.invariant c.loop-test.true _ c.stamps-k.ensures _ _ (c.next-first.ensures ∙ (λ d. next_of (c.record.ensures.records d) (c.record.ensures.at d))) c.release.ensures

pub returns : goal.returns
returns c = search evict_done
