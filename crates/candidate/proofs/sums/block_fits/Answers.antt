-- `candidate::sums::block_fits` meets its contract. Assumes nothing.
use Rattle.candidate.proofs.SumLaws.{end_fits, block_late, block_due}
use Rattle.candidate.proofs.sums.block_fits.Goals as goal

pub plus-requires : goal.plus-requires
plus-requires c = search (end_fits, c.reporting_delay-reporting.ensures)

pub returns-else-fits : goal.returns-else-fits
returns-else-fits c = search (block_late, c.reporting_delay-reporting.ensures)

pub returns-then-fits : goal.returns-then-fits
returns-then-fits c = search (block_due, c.network_delay.ensures, c.reporting_delay-reporting.ensures)
