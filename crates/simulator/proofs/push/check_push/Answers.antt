-- `simulator::push::check_push` meets its contract. Assumes nothing.
use Rattle.simulator.proofs.Handed.{handed}
use Rattle.simulator.proofs.EventNumbers.{push_n, push_9, push_0}
use Rattle.simulator.proofs.push.check_push.Goals as goal

pub returns-in_err-check_event : goal.returns-in_err-check_event
returns-in_err-check_event c = rw (handed c.from_residual.result c.in_err-check_event.field-0.0 c.from_residual.ensures) (search (push_n, c.in_err-check_event.ensures))

pub returns-then-entry-reserved : goal.returns-then-entry-reserved
returns-then-entry-reserved c = search (push_9, c.in_ok-check_event.ensures)

pub returns : goal.returns
returns c = search (push_0, c.in_ok-check_event.ensures)
