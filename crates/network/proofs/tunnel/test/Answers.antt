-- `network::tunnel::test` meets its contract. Assumes nothing.
use Rattle.network.proofs.TunnelLaws.{test_none, tested}
use Rattle.network.proofs.tunnel.test.Goals as goal

pub returns-then-extra-eq0 : goal.returns-then-extra-eq0
returns-then-extra-eq0 c = search test_none

pub returns : goal.returns
returns c = search tested
