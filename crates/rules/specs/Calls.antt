-- Every call but opening on a state: its answer, the rounds in it, and the state left, refusals 3 to 10 included.
use Rattle.std.specs.Prelude.{ℕ, true, if◌then◌else◌}
use Rattle.std.proofs.Math.Option.{Option, none, some}
use Rattle.rules.specs.Choice.{Answer, Called, choose, done, refused, step_made}
use Rattle.rules.specs.Arguments.{Call, action_kind_of, clear_action, clear_timer, pick_next, push, set_action, set_timer, sim_network_stack}
use Rattle.rules.specs.State.{State, with_ended}
use Rattle.rules.specs.NetworkStep.{Stepped}
use Rattle.rules.specs.Effects.{after_push, after_set_action, after_step, timer_set}
use Rattle.rules.specs.ChoiceRound.{action_cleared, timer_cleared, fits}
use Rattle.rules.specs.Basics.{kind_of}
use Rattle.rules.specs.Refusals.{refusal}

abbrev pub leaves : State → Answer → Called
leaves s a = record { answer = a; state = s }

-- a step's answer; "Number 10 sets the ended mark. [..] a step changes nothing else."
abbrev pub stepped : State → Stepped → Called
stepped s r = if fits r.sums then leaves r.state (step_made r.answer r.falls) else leaves (with_ended s true) (refused 10 0)

-- what a call does that no row from 3 to 9 refuses; "clearing an empty slot changes nothing"
unfoldable pub work : State → Call → Called
work s (push r) = leaves (after_push s r (kind_of r.kind)) done
work s (set_action z r) = leaves (after_set_action s z r (action_kind_of r.kind)) done
work s (clear_action z) = leaves (action_cleared s z) done
work s (set_timer z t) = leaves (timer_set s z t) done
work s (clear_timer z) = leaves (timer_cleared s z) done
work s (pick_next now) = choose s now
work s (sim_network_stack now r) = stepped s (after_step s now r (kind_of r.kind))

-- "Every refusal returns its number and the rounds finished, 0 for all but 10", and leaves the state
abbrev pub unless_refused : Option ℕ → State → Called → Called
unless_refused none s c = c
unless_refused (some n) s c = leaves s (refused n 0)

unfoldable pub call : State → Call → Called
call s c = unless_refused (refusal s c) s (work s c)
