-- `queue::records::append_record` meets its contract. Assumes nothing.
use mathlib.Core.Path.{◌∙◌}
use Rattle.queue_event.specs.Words.{next_of}
use Rattle.queue.proofs.Taking.{append_wide, append_in, append_join, append_spare, append_done, chain_stored}
use Rattle.queue.proofs.records.append_record.Goals as goal

pub record-requires : goal.record-requires
record-requires c = record { wide = append_wide _ _ _ _ c.requires; within = append_in _ _ _ _ c.requires _ c.of-free.ensures.head }

pub append_in-new-requires : goal.append_in-new-requires
append_in-new-requires c = append_join _ _ _ _ c.requires _ c.of-free.ensures.head

pub less-requires : goal.less-requires
less-requires c = append_spare _ _ _ _ c.requires _ c.of-free.ensures.count

pub returns : goal.returns
returns c =
    let next = c.next-next.ensures ∙ (λ d. next_of (c.record.ensures.records d) (c.record.ensures.at d)) in
    append_done _ _ _ _ c.requires _ _ _ _ _ _ _ c.of-free.ensures.head c.of-free.ensures.count next c.append_in-new.ensures (chain_stored _ _ _ _ _ _ _ c.set_chain.ensures c.less.ensures.head c.less.ensures.count)
