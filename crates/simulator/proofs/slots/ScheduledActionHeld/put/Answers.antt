-- `simulator::slots::ScheduledAction::put` meets its contract. Assumes nothing.
use Rattle.simulator.proofs.SlotNumbers.{number_is}
use Rattle.simulator.proofs.ActionOutcomes.{action_small, action_kind, action_done}
use Rattle.simulator.proofs.slots.ScheduledActionHeld.put.Goals as goal

pub known-requires : goal.known-requires
known-requires c = search action_small

pub action_word-word-requires : goal.action_word-word-requires
action_word-word-requires c = search action_kind

pub returns : goal.returns
returns c = let e = number_is _ _ _ c.number-j.ensures c.known.ensures in search (action_done, e)
