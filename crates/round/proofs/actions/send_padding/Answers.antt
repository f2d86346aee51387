-- `round::actions::send_padding` meets its contract. Assumes nothing.
use Rattle.round.proofs.ActionDone.{padding_may, padding_done}
use Rattle.round.proofs.actions.send_padding.Goals as goal

pub push_sim-requires : goal.push_sim-requires
push_sim-requires c = search (padding_may, c.action_delay-delay.ensures)

pub returns : goal.returns
returns c = search (padding_done, c.action_delay-delay.ensures)
