-- `round::choice::pick_next_rounds` meets its contract. Assumes nothing.
use Rattle.rules.specs.State.{rounds_left}
use Rattle.layout.specs.Layout.{state_of}
use Rattle.round.specs.Rounds.{Choosing}
use Rattle.round.proofs.choice.pick_next_rounds.Given as goal

abbrev pub invariant-loop-c : goal.invariant-loop-c
invariant-loop-c l = Choosing l.initial.block l.block l.time.at.0 l.rounds

abbrev pub decreases-loop-c : goal.decreases-loop-c
decreases-loop-c l = rounds_left (state_of l.block)
