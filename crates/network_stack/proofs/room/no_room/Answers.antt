-- `network_stack::room::no_room` meets its contract. Assumes nothing.
use Rattle.network_stack.proofs.FullLaws.{pad_fits, send_fits, by_fits, room_nothing, room_queue, room_pad, room_send}
use Rattle.network_stack.proofs.room.no_room.Goals as goal

pub overflow_add-result-in-Pad : goal.overflow_add-result-in-Pad
overflow_add-result-in-Pad c = search pad_fits

pub overflow_add-result-in-Send : goal.overflow_add-result-in-Send
overflow_add-result-in-Send c = search send_fits

pub overflow_add-result-in-Send-3 : goal.overflow_add-result-in-Send-3
overflow_add-result-in-Send-3 c = by_fits _ c.reserved-reserve.result c.records_for-in-Send.result c.reserved-reserve.ensures.1 c.records_for-in-Send.ensures

pub returns-in-Nothing : goal.returns-in-Nothing
returns-in-Nothing c = search room_nothing

pub returns-in-Queue : goal.returns-in-Queue
returns-in-Queue c = search room_queue

pub returns-in-Pad : goal.returns-in-Pad
returns-in-Pad c = search room_pad

pub returns-in-Send : goal.returns-in-Send
returns-in-Send c = search room_send
