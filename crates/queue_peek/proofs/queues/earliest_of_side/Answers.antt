-- `queue_peek::queues::earliest_of_side` meets its contract. Assumes nothing.
use Rattle.queue_peek.proofs.OfferedLaws.{side_earliest}
use Rattle.queue_peek.proofs.queues.earliest_of_side.Goals as goal

pub returns : goal.returns
returns c = search (side_earliest, c.block_end.ensures, c.is_bypassable-flag.ensures)
