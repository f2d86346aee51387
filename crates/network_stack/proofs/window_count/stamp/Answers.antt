-- `network_stack::window_count::stamp` meets its contract. Assumes nothing.
use Rattle.network_stack.proofs.TellLaws.{stamp_told, tell_may}
use Rattle.network_stack.proofs.WindowLaws.{stamp_count}
use Rattle.network_stack.proofs.window_count.stamp.Goals as goal

pub add-requires : goal.add-requires
add-requires c = search stamp_count

pub told-requires : goal.told-requires
told-requires c = tell_may _ _ _ _ _ c.requires c.stamps-k.ensures _ _ c.add.ensures _ c.set_chain.ensures c.args.time.within

pub returns : goal.returns
returns c = search stamp_told
