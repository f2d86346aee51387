-- `queue::records::record` meets its contract. Assumes nothing.
use Rattle.layout.proofs.Parts.{rest_part}
use Rattle.queue.proofs.LentLaws.{lent_in}
use Rattle.queue.proofs.records.record.Goals as goal

pub invariant_of-result : goal.invariant_of-result
invariant_of-result c = record { within = search lent_in }

pub returns-clause-records : goal.returns-clause-records
returns-clause-records c = rest_part c.args.block.now
