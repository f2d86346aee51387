-- `network_stack::window_count::WindowCount::added` meets its contract. Assumes nothing.
use Rattle.network_stack.proofs.WindowLaws.{added_append, added_fits, added_done}
use Rattle.network_stack.proofs.window_count.WindowCount.added.Goals as goal

pub append_record-first-requires : goal.append_record-first-requires
append_record-first-requires c = search added_append

pub overflow_add-result : goal.overflow_add-result
overflow_add-result c = search added_fits

pub returns : goal.returns
returns c = search added_done
