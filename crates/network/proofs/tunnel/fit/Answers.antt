-- `network::tunnel::fit` meets its contract. Assumes nothing.
use Rattle.network.proofs.TunnelLaws.{fit_last, fit_first}
use Rattle.network.proofs.tunnel.fit.Goals as goal

pub returns-then-tested_fits : goal.returns-then-tested_fits
returns-then-tested_fits c = search fit_last

pub returns-else-tested_fits : goal.returns-else-tested_fits
returns-else-tested_fits c = search fit_first
