-- `network_stack::room::reserved` meets its contract. Assumes nothing.
use Rattle.network_stack.proofs.FullLaws.{reserved_in_lem}
use Rattle.network_stack.proofs.room.reserved.Goals as goal

pub reserved-requires : goal.reserved-requires
reserved-requires c = record { limited = c.args.view.now.good.limits; slots = c.args.view.now.good.slots }

pub returns : goal.returns
returns c = reserved_in_lem _ _ _ c.reserved.ensures
