-- `round::actions::do_internal_timer` meets its contract. Assumes nothing.
use Rattle.round.proofs.ActionLaws.{timer_may, timer_done}
use Rattle.round.proofs.actions.do_internal_timer.Goals as goal

pub push_sim-requires : goal.push_sim-requires
push_sim-requires c = timer_may _ c.args.d c.requires _ c.clear_timer.ensures _ c.timer_event-e.ensures

pub returns : goal.returns
returns c = timer_done _ c.args.d c.requires _ c.clear_timer.ensures _ c.timer_event-e.ensures _ c.push_sim.ensures
