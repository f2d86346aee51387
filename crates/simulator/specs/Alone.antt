-- Clearing a timer or an action has the row of its slot alone, in a state that is not ended. Assumes nothing.
use mathlib.Core.Path.{ap, sym, ◌∙◌}
use Rattle.std.specs.Prelude.{ℕ, ◌≡◌, Bool, List, ◌∷◌, get_or}
use Rattle.std.proofs.Math.Option.{Option}
use Rattle.rules.specs.Arguments.{clear_action, clear_timer}
use Rattle.rules.specs.ChoiceRound.{Slot}
use Rattle.rules.specs.Refusals.{first_of, refusal, table}
use Rattle.queue_event.specs.Tag.{flag}
use Rattle.layout.specs.Layout.{bank, state_from}
use Rattle.simulator.specs.Numbers.{slot_rows, SlotNumber, CallNumber}

module _ (h : List ℕ) (z : Slot) (going : get_or h 16 0 ≡ 0) (o : Option ℕ) (row : SlotNumber h z o) where
  pub timer_alone : CallNumber h (clear_timer z) o
  unfolding refusal table state_from bank
  timer_alone rs g = row rs ∙ ap (λ (ended : Bool). first_of ((3, ended) ∷ slot_rows (state_from h rs) z)) (sym (ap flag going))

  pub action_alone : CallNumber h (clear_action z) o
  unfolding refusal table state_from bank
  action_alone rs g = row rs ∙ ap (λ (ended : Bool). first_of ((3, ended) ∷ slot_rows (state_from h rs) z)) (sym (ap flag going))
