-- `queue_peek::queues::not_before` meets its contract. Assumes nothing.
use Rattle.queue_peek.proofs.QueueLaws.{lifted_none, lifted_head}
use Rattle.queue_peek.proofs.queues.not_before.Goals as goal

pub returns-in_err-w : goal.returns-in_err-w
returns-in_err-w c = rw c.from_residual.ensures (search (lifted_none, c.in_err-w.was))

pub returns : goal.returns
returns c = search (lifted_head, c.in_ok-w.was)
