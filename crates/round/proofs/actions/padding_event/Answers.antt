-- `round::actions::padding_event` meets its contract. Assumes nothing.
use Rattle.round.proofs.ActionLaws.{padding_shows}
use Rattle.round.proofs.actions.padding_event.Goals as goal

pub returns : goal.returns
returns c = rw c.plain.ensures (padding_shows c.args.p c.args.delay)
