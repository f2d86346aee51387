-- A call, refused or not: the round total, the bound on rounds, and the room rule.
use Rattle.std.specs.Prelude.{ℕ, ◌+◌, ◌≤◌, ◌≡◌, refl, false}
use Rattle.std.proofs.Math.Option.{Option, none, some}
use Rattle.std.proofs.Common.{arith, ltb-false}
use Rattle.rules.specs.Basics.{Side, kind_of}
use Rattle.rules.specs.State.{SideState, State, side, with_side, held, used, reserved}
use Rattle.rules.specs.ChoiceRound.{fits, timer_cleared, no_timer, action_cleared, no_action}
use Rattle.rules.specs.Choice.{Called}
use Rattle.rules.specs.Arguments.{Call, push, set_action, clear_action, set_timer, clear_timer, pick_next, sim_network_stack, action_kind_of}
use Rattle.rules.specs.Effects.{after_push, after_set_action, after_step, timer_set}
use Rattle.rules.specs.Refusals.{table, refusal, full}
use Rattle.rules.specs.Calls.{work, unless_refused, call}
use Rattle.laws.specs.Branches.{by_if}
use Rattle.laws.specs.Counts.{used_with, reserved_with}
use Rattle.laws.specs.Adds.{Adds, after_push_adds, after_set_adds, held_none, set_timer_adds, with_adds}
use Rattle.laws.proofs.Adds.{after_step_adds}
use Rattle.laws.specs.Runs.{Ran, ended_makes}
use Rattle.laws.proofs.Runs.{choose_runs}
use Rattle.laws.specs.CallRuns.{none_met, CallRan}

-- a call that row 9 let pass
roomy : (s t : State) (c : ℕ) → Adds s t c → full t ≡ false → Ran s t 0 0 c
roomy s t c a f =
    record {
      total = omega (arith, a.steady.rounds);
      left = omega (arith, a.left);
      same = a.steady.room;
      fixed = a.steady.settings;
      kept = λ g. ltb-false t.room (used t + reserved t) f;
      limit = λ g. omega (arith, a.steady.rounds);
    }

-- a slot cleared
cleared : (s : State) (z : Side) (x : SideState) → Adds s (with_side s z x) 0 → used (with_side s z x) + reserved (with_side s z x) ≤ used s + reserved s → Ran s (with_side s z x) 0 0 0
cleared s z x a h =
    record {
      total = omega (arith, a.steady.rounds);
      left = omega (arith, a.left);
      same = a.steady.room;
      fixed = a.steady.settings;
      kept = λ g. omega (arith, a.steady.room);
      limit = λ g. omega (arith, a.steady.rounds);
    }

-- what the rules make of a call that no row from 3 to 9 refuses: a clause for each call
work_runs : (s : State) (c : Call) → refusal s c ≡ none → CallRan s c (work s c)
unfolding work refusal table action_cleared timer_cleared
work_runs s (push r) h =
    roomy s (after_push s r (kind_of r.kind)) 0 (after_push_adds s r (kind_of r.kind)) (none_met (table s (push r)) h).1.1.1.1.0
work_runs s (set_action z r) h =
    roomy
    s
    (after_set_action s z r (action_kind_of r.kind))
    4
    (after_set_adds s z r (action_kind_of r.kind))
    (none_met (table s (set_action z r)) h).1.1.1.1.0
work_runs s (clear_action z) h =
    let x : SideState = no_action (side s z.side) z.machine in
    let g : held x.actions ≤ held (side s z.side).actions = held_none (side s z.side).actions z.machine in
    cleared s z.side x (with_adds s z.side x 0 (omega arith)) (omega (arith, used_with s z.side x, reserved_with s z.side x))
work_runs s (set_timer z t) h = roomy s (timer_set s z t) 1 (set_timer_adds s z t) (none_met (table s (set_timer z t)) h).1.1.1.0
work_runs s (clear_timer z) h =
    let x : SideState = no_timer (side s z.side) z.machine in
    let g : held x.timers ≤ held (side s z.side).timers = held_none (side s z.side).timers z.machine in
    cleared s z.side x (with_adds s z.side x 0 (omega arith)) (omega (arith, used_with s z.side x, reserved_with s z.side x))
work_runs s (pick_next now) h = choose_runs s now
work_runs s (sim_network_stack now r) h =
    by_if
    (λ (d : Called). CallRan s (sim_network_stack now r) d)
    (fits (after_step s now r (kind_of r.kind)).sums)
    went
    (ended_makes s)
  where
    went : Ran s (after_step s now r (kind_of r.kind)).state 0 0 2
    went =
        roomy
        s
        (after_step s now r (kind_of r.kind)).state
        2
        (after_step_adds s now r (kind_of r.kind))
        (none_met (table s (sim_network_stack now r)) h).1.1.1.1.1.0

-- a call refused by a row from 3 to 9 changes nothing and is allowed nothing
unchanged : (s : State) → Ran s s 0 0 0
unchanged s = record { total = refl; left = omega arith; same = refl; fixed = refl; kept = λ g. g; limit = λ g. g }

-- a call, refused or not
pub call_runs : (s : State) (c : Call) → CallRan s c (call s c)
unfolding call
call_runs s c = go (refusal s c) refl
  where
    go : (o : Option ℕ) → refusal s c ≡ o → CallRan s c (unless_refused o s (work s c))
    go none h = work_runs s c h
    go (some n) h = unchanged s
