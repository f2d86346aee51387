-- `round::choice::pick_next_rounds` meets its contract. Assumes nothing.
use mathlib.Core.Path.{refl}
use borrow.Author.Rules.{rules}
use Rattle.round.proofs.ActLaws.{rounds_fit}
use Rattle.round.proofs.ChoiceLaws.{choice_begins, choice_found, choice_stops, turn_falls, turn_goes}
use Rattle.round.proofs.choice.pick_next_rounds.Goals as goal

pub loop-c-init : goal.loop-c-init
loop-c-init c = choice_begins _ _ c.requires

pub returns-in_err-c : goal.returns-in_err-c
returns-in_err-c c = choice_stops _ _ _ _ _ _ c.loop-c.invariant c.in_err-c.ensures _ refl _ c.from_residual.ensures

pub returns-in-Some : goal.returns-in-Some
returns-in-Some c = choice_found _ _ _ _ _ _ c.loop-c.invariant c.round.ensures _ (search rules)

pub overflow_add-rounds : goal.overflow_add-rounds
overflow_add-rounds c = record { fits = rounds_fit _ _ c.loop-c.invariant.may }

pub loop-c-smaller : goal.loop-c-smaller
loop-c-smaller c = turn_falls _ _ _ _ _ _ c.loop-c.invariant c.round.ensures (search rules)

pub loop-c-preserved : goal.loop-c-preserved
loop-c-preserved c = turn_goes _ _ _ _ _ _ c.loop-c.invariant c.round.ensures (search rules)
