-- `candidate::first::candidate` meets its contract. Assumes nothing.
use Rattle.candidate.proofs.OrderLaws.{first_aggregate, first_block_lem, first_later}
use Rattle.candidate.proofs.first.candidate.Goals as goal

pub returns-then-aggregate_first : goal.returns-then-aggregate_first
returns-then-aggregate_first c = search first_aggregate

pub returns-then-block_first : goal.returns-then-block_first
returns-then-block_first c = search first_block_lem

pub returns : goal.returns
returns c = search first_later
