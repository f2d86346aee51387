-- `queue_peek::blocks::next_block` meets its contract. Assumes nothing.
use Rattle.queue_peek.proofs.BlockLaws.{next_left, next_right, next_client, next_server}
use Rattle.queue_peek.proofs.blocks.next_block.Goals.{in_default-via-in-Some+in_default, in_default-via-in_default}
use Rattle.queue_peek.proofs.blocks.next_block.Goals as goal

pub returns-then-lt : goal.returns-then-lt
returns-then-lt c = search (next_client, c.of_side-client.ensures, c.of_side-server.ensures)

pub returns-else-lt : goal.returns-else-lt
returns-else-lt c = search (next_server, c.of_side-client.ensures, c.of_side-server.ensures)

pub returns-in_default : goal.returns-in_default
returns-in_default c =
    let client = c.of_side-client.ensures in
    let server = c.of_side-server.ensures in
    elim c.in_default.branch [ in_default-via-in-Some+in_default w ↦ search (next_left, client, server, w.in_default.is-0, w.in_default.is-1) | in_default-via-in_default w ↦ search (next_right, client, server, w.in_default.is-0) ]
