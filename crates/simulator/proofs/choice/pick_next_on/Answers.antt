-- `simulator::choice::pick_next_on` meets its contract. Assumes nothing.
use Rattle.simulator.proofs.Working.{choice_refused}
use Rattle.simulator.proofs.ChoiceOutcomes.{choice_outcome}
use Rattle.simulator.proofs.Outcomes.{passed_accepted}
use Rattle.simulator.proofs.choice.pick_next_on.Goals as goal

pub returns-in_err-time : goal.returns-in_err-time
returns-in_err-time c = search (choice_refused, c.in_err-time.ensures.number)

pub pick_next_rounds-requires : goal.pick_next_rounds-requires
pick_next_rounds-requires c = search (passed_accepted, c.in_ok-time.ensures.number)

pub returns : goal.returns
returns c = let chose = rw c.in_ok-time.ensures.time at c.pick_next_rounds.ensures in search (choice_outcome, c.in_ok-time.ensures.number, chose)
