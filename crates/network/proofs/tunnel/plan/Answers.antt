-- `network::tunnel::plan` meets its contract. Assumes nothing.
use Rattle.network.proofs.TunnelLaws.{planned}
use Rattle.network.proofs.tunnel.plan.Goals as goal

pub returns : goal.returns
returns c =
    let at = c.side-side.ensures in
    planned _ _ c.args.e _ _ (rw (at.view, at.client) at c.link_of-link.ensures) (rw (at.view, at.client) at c.fill-filled.ensures) _ c.arrival-received.result _ (rw (at.view, at.client) at c.test-tested.ensures)
    c.plus.ensures c.arrival-received.ensures
