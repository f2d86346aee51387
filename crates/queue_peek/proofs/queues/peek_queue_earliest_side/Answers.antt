-- `queue_peek::queues::peek_queue_earliest_side` meets its contract. Assumes nothing.
use Rattle.queue_peek.proofs.OfferedLaws.{earliest_client, earliest_server}
use Rattle.queue_peek.proofs.queues.peek_queue_earliest_side.Goals as goal

pub returns-then-not_later : goal.returns-then-not_later
returns-then-not_later c =
    let x = c.side.ensures in
    let y = c.side-2.ensures in
    let client = rw (x.view, x.client) at c.earliest_of_side-c.ensures in
    let server = rw (y.view, y.client) at c.earliest_of_side-s.ensures in
    search (earliest_client, client, server)

pub returns-else-not_later : goal.returns-else-not_later
returns-else-not_later c =
    let x = c.side.ensures in
    let y = c.side-2.ensures in
    let client = rw (x.view, x.client) at c.earliest_of_side-c.ensures in
    let server = rw (y.view, y.client) at c.earliest_of_side-s.ensures in
    search (earliest_server, client, server)
