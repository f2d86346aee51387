-- The promise of a choice, from its number and from what its rounds leave. Assumes nothing.
use Prim.Native.Nat.{ℕ}
use mathlib.Core.Path.{◌≡◌, ap}
use mathlib.Core.List.{List}
use mathlib.Core.Option.{none}
use native.Mathlib.Omega.{arith}
use Rattle.std.specs.Prelude.{Result}
use Rattle.rules.specs.Arguments.{Call, EventIn, push, set_action, clear_action, set_timer, clear_timer, pick_next, sim_network_stack}
use Rattle.rules.specs.Calls.{work}
use Rattle.event.specs.Answers.{choice_of}
use Rattle.event.specs.declared.answer.Chosen.{Chosen}
use Rattle.event.specs.declared.answer.Refusal.{Refusal}
use Rattle.round.specs.Rounds.{Chose}
use Rattle.simulator.specs.Outcome.{Outcome}
use Rattle.simulator.specs.Numbers.{Numbered}
use Rattle.simulator.proofs.Frees.{free_records}
use Rattle.simulator.proofs.Outcomes.{by_work, passed_accepted, passed_none}

-- a choice is no network step
is_step : Call → ℕ
is_step (push r) = 0
is_step (set_action z r) = 0
is_step (clear_action z) = 0
is_step (set_timer z t) = 0
is_step (clear_timer z) = 0
is_step (pick_next now) = 0
is_step (sim_network_stack now r) = 1

no_step : (t now : ℕ) (r : EventIn) → pick_next t ≡ sim_network_stack now r → ⊥
unfolding is_step
no_step t now r e = let z : ◌≡◌ {A = ℕ} 0 1 = ap is_step e in omega arith

module _ (w : List ℕ) (now : ℕ) (num : Numbered w (pick_next now) none) where
  pub choice_outcome : (a : Result Chosen Refusal) (left : List ℕ) → Chose w left now a → Outcome w (pick_next now) (choice_of a) left
  unfolding work
  choice_outcome a left k =
      by_work free_records w (pick_next now) (choice_of a) left (passed_accepted w (pick_next now) num) (passed_none w (pick_next now) num)
      (record {
        accepted = k.accepted;
        answer = k.answer;
        state = k.state;
        spare = k.spare;
        size = k.size;
        ten = λ t e c. absurd (no_step now t e c);
      })
