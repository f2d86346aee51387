-- `network_stack::plan::make` meets its contract. Assumes nothing.
use Rattle.network_stack.proofs.CarryLaws.{make_nothing, queue_may, make_queue, pad_may, make_pad, send_may, make_send}
use Rattle.network_stack.proofs.plan.make.Goals as goal

pub push_sim-requires : goal.push_sim-requires
push_sim-requires c = search queue_may

pub make-requires : goal.make-requires
make-requires c = search pad_may

pub make-requires-in-Send : goal.make-requires-in-Send
make-requires-in-Send c = search send_may

pub returns-in-Nothing : goal.returns-in-Nothing
returns-in-Nothing c = search make_nothing

pub returns-in-Queue : goal.returns-in-Queue
returns-in-Queue c = search make_queue

pub returns-in-Pad : goal.returns-in-Pad
returns-in-Pad c = search make_pad

pub returns-in-Send : goal.returns-in-Send
returns-in-Send c = search make_send
