-- `queue::peek::peek` meets its contract. Assumes nothing.
use Rattle.queue.proofs.HeadsKeys.{server_peeked, client_peeked}
use Rattle.queue.proofs.peek.peek.Goals as goal

pub returns-then-server_sooner : goal.returns-then-server_sooner
returns-then-server_sooner c =
    let x = c.side-client.ensures in
    let y = c.side-server.ensures in
    server_peeked _ _ _ _ _ _ (rw (x.view, x.client) at c.key-first.ensures) (rw (y.view, y.client) at c.key-second.ensures) c.server_sooner.ensures _ c.if-server_sooner.true (rw (y.view, y.client) at c.keyed.ensures)

pub returns : goal.returns
returns c =
    let x = c.side-client.ensures in
    let y = c.side-server.ensures in
    client_peeked _ _ _ _ _ _ (rw (x.view, x.client) at c.key-first.ensures) (rw (y.view, y.client) at c.key-second.ensures) c.server_sooner.ensures _ c.if-server_sooner.false (rw (x.view, x.client) at c.keyed-2.ensures)
