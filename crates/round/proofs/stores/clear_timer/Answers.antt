-- `round::stores::clear_timer` meets its contract. Assumes nothing.
use Rattle.round.proofs.HeaderWords.{timer_cleared_lem}
use Rattle.event.specs.HandedIn.{side_of}
use Rattle.round.proofs.stores.clear_timer.Goals as goal

pub returns : goal.returns
returns c = timer_cleared_lem _ c.requires (side_of c.args.slot.client) _ _ c.args.slot.known c.clear_timer.ensures
