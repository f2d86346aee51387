-- `round::actions::timer_event` meets its contract. Assumes nothing.
use Rattle.round.proofs.ActionLaws.{timer_shows}
use Rattle.round.proofs.actions.timer_event.Goals as goal

pub returns : goal.returns
returns c = rw c.plain.ensures (timer_shows c.args.d)
