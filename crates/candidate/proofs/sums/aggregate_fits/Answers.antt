-- `candidate::sums::aggregate_fits` meets its contract. Assumes nothing.
use Rattle.candidate.proofs.SumLaws.{raised_long, raised_sum_lem}
use Rattle.candidate.proofs.sums.aggregate_fits.Goals as goal

pub returns-then-not-fits_sum : goal.returns-then-not-fits_sum
returns-then-not-fits_sum c = search raised_long

pub returns : goal.returns
returns c = search raised_sum_lem
