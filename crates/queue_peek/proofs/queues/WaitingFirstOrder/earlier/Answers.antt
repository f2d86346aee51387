-- `queue_peek::queues::WaitingFirst::earlier` meets its contract. Assumes nothing.
use Rattle.queue_peek.proofs.QueueLaws.{waiting_base, waiting_other}
use Rattle.queue_peek.proofs.queues.WaitingFirstOrder.earlier.Goals as goal

pub returns-in-Base : goal.returns-in-Base
returns-in-Base c = search waiting_base

pub returns-in_default : goal.returns-in_default
returns-in_default c = search waiting_other
