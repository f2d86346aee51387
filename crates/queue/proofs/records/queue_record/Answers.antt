-- `queue::records::queue_record` meets its contract. Assumes nothing.
use mathlib.Core.Path.{◌∙◌}
use Rattle.queue_event.specs.Words.{next_of}
use Rattle.queue.proofs.Taking.{take_in, take_join, take_sorted, take_spare, take_count, take_wide, queue_done}
use Rattle.queue.proofs.records.queue_record.Goals as goal

pub record-requires : goal.record-requires
record-requires c = record { wide = take_wide _ _ _ c.requires.may; within = take_in _ _ _ c.requires.may _ c.of-free.ensures.head }

pub insert_in-new-requires : goal.insert_in-new-requires
insert_in-new-requires c = record {
  may = take_join _ _ _ c.requires.may _ _ _ c.mark-k.ensures c.of-chain.ensures.head c.of-chain.ensures.count _ c.of-free.ensures.head;
  sorted = take_sorted _ _ _ c.requires.may _ _ _ c.mark-k.ensures c.of-chain.ensures.head c.of-chain.ensures.count c.requires.ordered;
}

pub took-requires-clause-count : goal.took-requires-clause-count
took-requires-clause-count c = take_count _ _ _ c.requires.may _ _ _ c.mark-k.ensures c.of-chain.ensures.head c.of-chain.ensures.count

pub took-requires-clause-some : goal.took-requires-clause-some
took-requires-clause-some c = take_spare _ _ _ c.requires.may _ c.of-free.ensures.count

pub returns : goal.returns
returns c =
    let next = c.next-next.ensures ∙ (λ d. next_of (c.record.ensures.records d) (c.record.ensures.at d)) in
    queue_done _ _ _ _ _ _ _ _ _ _ _ _ _ c.requires.may c.mark-k.ensures c.of-free.ensures.head c.of-free.ensures.count c.of-chain.ensures.head c.of-chain.ensures.count next c.insert_in-new.ensures c.took.ensures
