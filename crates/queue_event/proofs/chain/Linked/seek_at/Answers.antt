-- `queue_event::chain::Linked::seek_at` meets its contract. Assumes nothing.
use Rattle.queue_event.proofs.Tails.{seek_told}
use Rattle.queue_event.proofs.chain.Linked.seek_at.Goals as goal

pub returns-then-stays : goal.returns-then-stays
returns-then-stays c =
    let f = c.in-Some.ensures in
    record { number = seek_told _ _ _ _ _ _ _ _ _ _ _ _ _ c.requires.ends c.requires.sorted c.mark.ensures f c.moment.ensures c.tag.ensures c.stays.ensures c.if-stays.true; of = f.0 }
