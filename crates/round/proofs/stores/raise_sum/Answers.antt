-- `round::stores::raise_sum` meets its contract. Assumes nothing.
use Rattle.round.proofs.HeaderWords.{sum_fits, sum_raised}
use Rattle.round.proofs.stores.raise_sum.Goals as goal

pub plus-sum-requires : goal.plus-sum-requires
plus-sum-requires c = search sum_fits

pub returns : goal.returns
returns c = search sum_raised
