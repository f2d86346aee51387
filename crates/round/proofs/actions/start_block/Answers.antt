-- `round::actions::start_block` meets its contract. Assumes nothing.
use Rattle.round.proofs.ActionLaws.{delays_fit, begin_fits, begin_may, begin_done}
use Rattle.round.proofs.actions.start_block.Goals as goal

pub both_delays-delay-requires : goal.both_delays-delay-requires
both_delays-delay-requires c = search delays_fit

pub begin_event-e-requires : goal.begin_event-e-requires
begin_event-e-requires c = search (begin_fits, c.both_delays-delay.ensures.is)

pub push_sim-requires : goal.push_sim-requires
push_sim-requires c = search (begin_may, c.both_delays-delay.ensures.is, c.is_bypassable.ensures)

pub returns : goal.returns
returns c = search (begin_done, c.both_delays-delay.ensures.is, c.is_bypassable.ensures)
