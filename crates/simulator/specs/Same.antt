-- What a list of calls asks of a state, and what it is told: for "A packed state gives the same further answers as its original." Assumes nothing.
use Rattle.std.specs.Prelude.{ℕ, List, map}
use Rattle.rules.specs.Choice.{Answer}
use Rattle.rules.specs.Arguments.{Call}
use Rattle.simulator.specs.Demand.{Entry, on, beside, pack}

-- a call as it is made: on the state, or beside it into a second block that holds these words
pub data Asked : Type 0 where
  of_state : Call → Asked
  packing_into : List ℕ → Asked

abbrev pub asked_by : Entry → Asked
asked_by (on x) = of_state x.call
asked_by (beside (pack v u) a) = packing_into v

-- what comes back: the answer, the rounds in it included, and of a second block every word that it holds then
pub data Back : Type 0 where
  answer : Answer → Back
  answer_and_block : Answer → List ℕ → Back

abbrev pub back_from : Entry → Back
back_from (on x) = answer x.answer
back_from (beside (pack v u) a) = answer_and_block a u

abbrev pub asked : List Entry → List Asked
asked l = map asked_by l

abbrev pub answered : List Entry → List Back
answered l = map back_from l
