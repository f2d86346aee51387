-- `round::actions::begin_event` meets its contract. Assumes nothing.
use Rattle.round.proofs.ActionLaws.{begin_shows}
use Rattle.round.proofs.actions.begin_event.Goals as goal

pub returns : goal.returns
returns c = rw c.plain.ensures (begin_shows c.args.p c.args.delay c.args.bypass _ c.plus-moment.ensures)
