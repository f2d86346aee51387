-- `round::stores::clear_action` meets its contract. Assumes nothing.
use Rattle.round.proofs.HeaderWords.{action_cleared_lem}
use Rattle.event.specs.HandedIn.{side_of}
use Rattle.round.proofs.stores.clear_action.Goals as goal

pub returns : goal.returns
returns c = action_cleared_lem _ c.requires (side_of c.args.slot.client) _ _ c.args.slot.known c.clear_action.ensures
