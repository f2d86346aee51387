-- `candidate::first::later_candidate` meets its contract. Assumes nothing.
use Rattle.candidate.proofs.AheadLaws.{timer_ahead, action_ahead}
use Rattle.candidate.proofs.OrderLaws.{later_event, later_timer, later_action}
use Rattle.candidate.proofs.first.later_candidate.Goals as goal

pub returns-then-event_first : goal.returns-then-event_first
returns-then-event_first c = search (later_event, c.event_candidate.ensures)

pub timer_candidate-requires : goal.timer_candidate-requires
timer_candidate-requires c = search timer_ahead

pub returns-then-not_later : goal.returns-then-not_later
returns-then-not_later c = search later_timer

pub action_candidate-requires : goal.action_candidate-requires
action_candidate-requires c = search action_ahead

pub returns : goal.returns
returns c = search later_action
