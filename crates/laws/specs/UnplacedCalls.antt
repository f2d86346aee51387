-- Any call, and any list of calls, reads values only.
use Rattle.std.specs.Prelude.{ℕ, ◌+◌, ◌≡◌, refl, Bool, true, false, not, ◌&&◌, ◌||◌, [], ◌∷◌, leb, ltb, eqb}
use Rattle.std.proofs.Common.{sym, ap, ◌∙◌}
use Rattle.std.proofs.Math.Option.{Option, none, some}
use Rattle.rules.specs.Basics.{Side, client, server, Kind, kind_of, has_machine_no, is_some}
use Rattle.rules.specs.State.{ActionKind, SideState, State, with_ended}
use Rattle.rules.specs.Limits.{moment_limit}
use Rattle.rules.specs.ChoiceRound.{Slot, timer_cleared, action_cleared, fits}
use Rattle.rules.specs.Choice.{Answer, Called, done, refused, step_made}
use Rattle.rules.specs.NetworkStep.{Stepped}
use Rattle.rules.specs.Arguments.{Call, EventIn, ActionIn, push, set_action, clear_action, set_timer, clear_timer, pick_next, sim_network_stack, event_of, action_kind_of}
use Rattle.rules.specs.Effects.{after_push, timer_set, after_set_action, after_step}
use Rattle.rules.specs.Refusals.{event_no_machine, event_too_large, action_too_large, no_machine, full, first_of, table, refusal}
use Rattle.rules.specs.Calls.{leaves, stepped, work, unless_refused, call}
use Rattle.laws.specs.Unplaced.{unplaced_state, Alike, side_unplaced, unplaced_state_twice, settled, used_unplaced, reserved_unplaced}
use Rattle.laws.specs.UnplacedRound.{clear_timer_unplaced, clear_action_unplaced, unplaced_called, choose_unplaced}
use Rattle.laws.specs.Branches.{if_alike}
use Rattle.laws.specs.UnplacedStep.{push_alike, step_unplaced, unmoved_unplaced, unplaced_stepped}

-- ---- what each call leaves

after_push_alike : (s : State) (r : EventIn) (k : Option Kind) → Alike (after_push s r k) (after_push (unplaced_state s) r k)
after_push_alike s r none = sym (unplaced_state_twice s)
after_push_alike s r (some k) = push_alike s (event_of r k)

set_timer_alike : (s : State) (z : Slot) (t : ℕ) → Alike (timer_set s z t) (timer_set (unplaced_state s) z t)
unfolding timer_set
set_timer_alike s z t = go z.side
  where
    after : State → Side → State
    after u y = timer_set u (record { side = y; machine = z.machine }) t

    go : (y : Side) → Alike (after s y) (after (unplaced_state s) y)
    go client = settled (after s client) (after (unplaced_state s) client) refl
    go server = settled (after s server) (after (unplaced_state s) server) refl

set_action_alike : (s : State) (z : Slot) (r : ActionIn) (k : Option ActionKind) → Alike (after_set_action s z r k) (after_set_action (unplaced_state s) z r k)
set_action_alike s z r none = sym (unplaced_state_twice s)
set_action_alike s z r (some k) = go z.side
  where
    after : State → Side → State
    after u y = after_set_action u (record { side = y; machine = z.machine }) r (some k)

    go : (y : Side) → Alike (after s y) (after (unplaced_state s) y)
    go client = settled (after s client) (after (unplaced_state s) client) refl
    go server = settled (after s server) (after (unplaced_state s) server) refl

after_step_unplaced : (s : State) (now : ℕ) (r : EventIn) (k : Option Kind) → unplaced_stepped (after_step s now r k) ≡ unplaced_stepped (after_step (unplaced_state s) now r k)
after_step_unplaced s now r none = unmoved_unplaced s false
after_step_unplaced s now r (some k) = step_unplaced s now (event_of r k) k

-- ---- refusals

no_machine_unplaced : (s : State) (z : Slot) → no_machine s z ≡ no_machine (unplaced_state s) z
no_machine_unplaced s z = sym (ap (λ (x : SideState). leb x.fixed.machines z.machine) (side_unplaced s z.side))

event_machine_unplaced : (s : State) (r : EventIn) → event_no_machine s r ≡ event_no_machine (unplaced_state s) r
event_machine_unplaced s r =
    ap (λ (b : Bool). has_machine_no r.kind && b) (no_machine_unplaced s (record { side = r.side; machine = r.machine }))

full_alike : (s t : State) → Alike s t → full s ≡ full t
full_alike s t h = sym (same s) ∙ ap full h ∙ same t
  where
    same : (u : State) → full (unplaced_state u) ≡ full u
    same u = λ d. ltb u.room (used_unplaced u d + reserved_unplaced u d)

table_unplaced : (s : State) (c : Call) → table s c ≡ table (unplaced_state s) c
unfolding table
table_unplaced s (push r) =
    λ d.
    (3, s.ended)
    ∷ (5, event_machine_unplaced s r d)
    ∷ (6, ltb 9 r.kind)
    ∷ (7, event_too_large r)
    ∷ (9, full_alike (after_push s r (kind_of r.kind)) (after_push (unplaced_state s) r (kind_of r.kind)) (after_push_alike s r (kind_of r.kind)) d)
    ∷ []
table_unplaced s (set_action z r) =
    λ d.
    (3, s.ended)
    ∷ (5, no_machine_unplaced s z d)
    ∷ (6, not (is_some (action_kind_of r.kind)))
    ∷ (7, action_too_large r (action_kind_of r.kind))
    ∷ (9, full_alike (after_set_action s z r (action_kind_of r.kind)) (after_set_action (unplaced_state s) z r (action_kind_of r.kind)) (set_action_alike s z r (action_kind_of r.kind)) d)
    ∷ []
table_unplaced s (clear_action z) = λ d. (3, s.ended) ∷ (5, no_machine_unplaced s z d) ∷ []
table_unplaced s (set_timer z t) =
    λ d.
    (3, s.ended)
    ∷ (5, no_machine_unplaced s z d)
    ∷ (7, ltb moment_limit t)
    ∷ (9, full_alike (timer_set s z t) (timer_set (unplaced_state s) z t) (set_timer_alike s z t) d)
    ∷ []
table_unplaced s (clear_timer z) = λ d. (3, s.ended) ∷ (5, no_machine_unplaced s z d) ∷ []
table_unplaced s (pick_next now) = refl
table_unplaced s (sim_network_stack now r) =
    λ d.
    (3, s.ended)
    ∷ (5, event_machine_unplaced s r d)
    ∷ (6, ltb 9 r.kind)
    ∷ (7, ltb moment_limit now || event_too_large r)
    ∷ (8, eqb r.kind 0 && not r.padding && ltb r.moment r.delay)
    ∷ (9, full_alike (after_step s now r (kind_of r.kind)).state (after_step (unplaced_state s) now r (kind_of r.kind)).state (ap (λ (x : Stepped). x.state) (after_step_unplaced s now r (kind_of r.kind))) d)
    ∷ []

-- ---- the call

answered : (a : Answer) {s t : State} → s ≡ t → leaves s a ≡ leaves t a
answered a h = ap (λ u. leaves u a) h

stepped_unplaced : (s : State) (r : Stepped) → unplaced_called (stepped s r) ≡ unplaced_called (stepped (unplaced_state s) (unplaced_stepped r))
stepped_unplaced s r =
    if_alike
    unplaced_called
    (fits r.sums)
    (answered (step_made r.answer r.falls) (sym (unplaced_state_twice r.state)))
    (answered (refused 10 0) (sym (unplaced_state_twice (with_ended s true))))

work_unplaced : (s : State) (c : Call) → unplaced_called (work s c) ≡ unplaced_called (work (unplaced_state s) c)
unfolding work
work_unplaced s (push r) = answered done (after_push_alike s r (kind_of r.kind))
work_unplaced s (set_action z r) = answered done (set_action_alike s z r (action_kind_of r.kind))
work_unplaced s (clear_action z) = answered done (settled (action_cleared s z) (action_cleared (unplaced_state s) z) (clear_action_unplaced s z))
work_unplaced s (set_timer z t) = answered done (set_timer_alike s z t)
work_unplaced s (clear_timer z) = answered done (settled (timer_cleared s z) (timer_cleared (unplaced_state s) z) (clear_timer_unplaced s z))
work_unplaced s (pick_next now) = choose_unplaced s now
work_unplaced s (sim_network_stack now r) =
    let k : Option Kind = kind_of r.kind in
    stepped_unplaced s (after_step s now r k)
    ∙ (λ d. unplaced_called (stepped (sym (unplaced_state_twice s) d) (after_step_unplaced s now r k d)))
    ∙ sym (stepped_unplaced (unplaced_state s) (after_step (unplaced_state s) now r k))

-- a call, refused or not
call_unplaced : (s : State) (c : Call) → unplaced_called (call s c) ≡ unplaced_called (call (unplaced_state s) c)
unfolding call refusal
call_unplaced s c = go (first_of (table s c)) ∙ ap (λ t. unplaced_called (unless_refused (first_of t) (unplaced_state s) (work (unplaced_state s) c))) (table_unplaced s c)
  where
    go : (o : Option ℕ) → unplaced_called (unless_refused o s (work s c)) ≡ unplaced_called (unless_refused o (unplaced_state s) (work (unplaced_state s) c))
    go none = work_unplaced s c
    go (some n) = answered (refused n 0) (sym (unplaced_state_twice s))

-- a call of two states that differ in record numbers alone: equal answers, and states that again differ in record numbers alone
pub call_reads_values : (s t : State) (c : Call) → Alike s t → ((call s c).answer ≡ (call t c).answer) × Alike (call s c).state (call t c).state
call_reads_values s t c h = (ap (λ (x : Called). x.answer) p, ap (λ (x : Called). x.state) p)
  where
    p : unplaced_called (call s c) ≡ unplaced_called (call t c)
    p = call_unplaced s c ∙ ap (λ u. unplaced_called (call u c)) h ∙ sym (call_unplaced t c)
