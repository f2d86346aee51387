-- `queue_event::tag::aggregate_tag` meets its contract. Assumes nothing.
use Rattle.queue_event.proofs.Fields.{aggregate_client, aggregate_server}
use Rattle.queue_event.proofs.tag.aggregate_tag.Goals as goal

pub returns-then-client : goal.returns-then-client
returns-then-client c = search aggregate_client

pub returns-else-client : goal.returns-else-client
returns-else-client c = search aggregate_server
