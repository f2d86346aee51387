-- `network::aggregate::tested_fits` meets its contract. Assumes nothing.
use Rattle.network.proofs.DueLaws.{fits_then, fits_else}
use Rattle.network.proofs.aggregate.tested_fits.Goals as goal

pub returns-then-base_fits : goal.returns-then-base_fits
returns-then-base_fits c = search fits_then

pub returns-else-base_fits : goal.returns-else-base_fits
returns-else-base_fits c = search fits_else
