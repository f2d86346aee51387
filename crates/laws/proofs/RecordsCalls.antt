-- Every call leaves each record number as often as it was: what a network step leaves fits into the records there are.
use Rattle.std.specs.Prelude.{ℕ, suc, ◌+◌, ◌≤◌, ◌≡◌, refl, false, List, [], ◌∷◌, length, set}
use Rattle.std.proofs.Math.Option.{Option, none, some}
use Rattle.std.proofs.Common.{arith, length-append, ltb-false}
use Rattle.rules.specs.Basics.{Side, client, server, Kind, kind_of, TunnelSent, NormalSent, PaddingSent, TunnelRecv, NormalRecv, PaddingRecv, BlockingBegin, BlockingEnd, TimerBegin, TimerEnd}
use Rattle.rules.specs.State.{Event, Held, in_record, ActionKind, Aggregate, State, with_timers, with_actions, side, free_place, used, reserved}
use Rattle.rules.specs.Limits.{moment_limit}
use Rattle.rules.specs.ChoiceHeads.{Head, waiting_head}
use Rattle.rules.specs.Queueing.{put_event, push_event}
use Rattle.rules.specs.Aggregates.{add_aggregates}
use Rattle.rules.specs.ChoiceRound.{Slot, lift_event, no_timer, timer_cleared, no_action, action_cleared, fits}
use Rattle.rules.specs.Choice.{Called}
use Rattle.rules.specs.NetworkStep.{Stepped, as_padding, let_pass, replace_by, replacing, step_padding, stamps_kept, free_with_evicted, stamp, step_tunnel, step_for}
use Rattle.rules.specs.Arguments.{Call, EventIn, ActionIn, push, set_action, clear_action, set_timer, clear_timer, pick_next, sim_network_stack, event_of, action_of, action_kind_of}
use Rattle.rules.specs.Effects.{after_push, timer_set, after_set_action, after_step}
use Rattle.rules.specs.Refusals.{full, table, refusal}
use Rattle.rules.specs.Calls.{work, unless_refused, call}
use Rattle.laws.specs.Branches.{by_if}
use Rattle.laws.specs.Counts.{used_push, room_push, used_add}
use Rattle.laws.specs.CallRuns.{none_met}
use Rattle.laws.proofs.Adds.{step_adds}
use Rattle.laws.specs.Sound.{Sound}
use Rattle.laws.specs.Accepted.{Accepted, Whole}
use Rattle.laws.specs.Heads.{HeadOf, waiting_first_lem}
use Rattle.laws.specs.Records.{Same, same_then, same_number, push_same, add_same, move_same, freed, stamp_same, ones_free, ones_list, weigh_evict}
use Rattle.laws.specs.RecordsRound.{ended_same, with_same}
use Rattle.laws.proofs.RecordsRound.{choose_same}
use Rattle.laws.specs.RecordsTaken.{free_reserved}
use Rattle.laws.specs.RecordsCalls.{records, Fitting}

push_fitting : (s t : State) (e : Event) → Same s t → Fitting s (push_event t e)
push_fitting s t e h = λ g. same_then s t (push_event t e) h (push_same t e (omega (arith, used_push t e, same_number s t h)))

add_fitting : (s t : State) (new : List Aggregate) → Same s t → Fitting s (add_aggregates t new)
add_fitting s t new h = λ g. same_then s t (add_aggregates t new) h (add_same t new (omega (arith, used_add t new, same_number s t h)))

own_fitting : (s : State) (e : Event) → Fitting s (as_padding s e).state
own_fitting s e = push_fitting s s _ (λ w. refl)

replace_fitting : (s : State) (now : ℕ) (h : Head) → HeadOf s (some h) → Fitting s (replace_by s now h).state
unfolding replace_by
replace_fitting s now h g = add_fitting s (put_event (lift_event s h) (in_record h.place (let_pass h.event))) _ (move_same s h (let_pass h.event) g)

replacing_fitting : (s : State) (now : ℕ) (e : Event) (o : Option Head) → HeadOf s o → Fitting s (replacing s now e o).state
replacing_fitting s now e none g = own_fitting s e
replacing_fitting s now e (some h) g =
    by_if
    (λ (r : Stepped). Fitting s r.state)
    h.event.padding
    (own_fitting s e)
    (by_if (λ (r : Stepped). Fitting s r.state) e.bypass (replace_fitting s now h g) (λ u w. refl))

padding_fitting : (s : State) (now : ℕ) (e : Event) → Sound s → Fitting s (step_padding s now e).state
unfolding step_padding
padding_fitting s now e h =
    by_if
    (λ (r : Stepped). Fitting s r.state)
    e.replace
    (replacing_fitting s now e (waiting_head (side s e.side).block_bypassable (side s e.side)) (waiting_first_lem s e.side (side s e.side).block_bypassable h))
    (own_fitting s e)

-- old stamps given back: as many free records more as stamps fewer
evict_count : (n now : ℕ) (l : List (Held ℕ)) (f : List ℕ) → length (stamps_kept n now l) + length (free_with_evicted n now l f) ≡ length l + length f
evict_count n now l f =
    omega (arith, weigh_evict (λ (p : ℕ). 1) n now l f, ones_list l, ones_free f, ones_list (stamps_kept n now l), ones_free (free_with_evicted n now l f))

-- a stamp takes one record of those that are free once the old ones are given back
stamp_count : (s : State) (z : Side) (now : ℕ) → used (stamp s z now) + length (freed s z now) ≡ suc (records s)
unfolding stamp used
stamp_count s client now =
    let n : ℕ = s.settings.window in
    let l : List (Held ℕ) = s.client.stamps in
    omega (arith, evict_count n now l s.free, length-append (stamps_kept n now l) (in_record (free_place (freed s client now)) now ∷ []))
stamp_count s server now =
    let n : ℕ = s.settings.window in
    let l : List (Held ℕ) = s.server.stamps in
    omega (arith, evict_count n now l s.free, length-append (stamps_kept n now l) (in_record (free_place (freed s server now)) now ∷ []))

tunnel_fitting : (s : State) (now : ℕ) (e : Event) → Fitting s (step_tunnel s now e).state
unfolding step_tunnel
tunnel_fitting s now e = go _ _
  where
    go : (new : List Aggregate) (v : Event) → Fitting s (push_event (add_aggregates (stamp s e.side now) new) v)
    go new v = λ g.
        let t : State = stamp s e.side now in
        let u : used t + length new + 1 ≤ records s = omega (arith, used_push (add_aggregates t new) v, used_add t new) in
        let a : Same s t = stamp_same s e.side now (omega (arith, stamp_count s e.side now)) in
        push_fitting s (add_aggregates t new) v (add_fitting s t new a (omega (arith, used_add t new))) g

step_fitting : (s : State) (now : ℕ) (e : Event) (k : Kind) → Sound s → Fitting s (step_for k s now e).state
unfolding step_for
step_fitting s now e TunnelSent h = tunnel_fitting s now e
step_fitting s now e NormalSent h = push_fitting s s _ (λ w. refl)
step_fitting s now e PaddingSent h = padding_fitting s now e h
step_fitting s now e TunnelRecv h = push_fitting s s _ (λ w. refl)
step_fitting s now e NormalRecv h = λ g w. refl
step_fitting s now e PaddingRecv h = λ g w. refl
step_fitting s now e BlockingBegin h = λ g w. refl
step_fitting s now e BlockingEnd h = λ g w. refl
step_fitting s now e TimerBegin h = λ g w. refl
step_fitting s now e TimerEnd h = λ g w. refl

not_full : (t : State) → full t ≡ false → used t + reserved t ≤ t.room
not_full t h = ltb-false t.room (used t + reserved t) h

after_push_same : (s : State) (r : EventIn) (k : Option Kind) → Whole s → full (after_push s r k) ≡ false → Same s (after_push s r k)
after_push_same s r none h f = λ w. refl
after_push_same s r (some k) h f =
    push_fitting s s (event_of r k) (λ w. refl) (omega (arith, not_full (push_event s (event_of r k)) f, room_push s (event_of r k)))

after_step_same : (s : State) (now : ℕ) (r : EventIn) (k : Option Kind) → Sound s → Whole s → full (after_step s now r k).state ≡ false → Same s (after_step s now r k).state
after_step_same s now r none q h f = λ w. refl
after_step_same s now r (some k) q h f =
    let t : State = (step_for k s now (event_of r k)).state in
    let m : t.room ≡ s.room = (step_adds s now (event_of r k) k).steady.room in
    step_fitting s now (event_of r k) k q (omega (arith, not_full t f))

set_action_same : (s : State) (z : Slot) (r : ActionIn) (k : Option ActionKind) → Same s (after_set_action s z r k)
set_action_same s z r none = λ w. refl
set_action_same s z r (some k) =
    with_same s z.side (with_actions (side s z.side) (set (side s z.side).actions z.machine (some (action_of r k)))) (λ w. refl)

-- a clause for each call
work_same : (s : State) (c : Call) → Accepted s → refusal s c ≡ none → Same s (work s c).state
unfolding work refusal table action_cleared timer_cleared timer_set
work_same s (push r) h g = after_push_same s r (kind_of r.kind) h.whole (none_met (table s (push r)) g).1.1.1.1.0
work_same s (set_action z r) h g = set_action_same s z r (action_kind_of r.kind)
work_same s (clear_action z) h g = with_same s z.side (no_action (side s z.side) z.machine) (λ w. refl)
work_same s (set_timer z t) h g = with_same s z.side (with_timers (side s z.side) (set (side s z.side).timers z.machine (some t))) (λ w. refl)
work_same s (clear_timer z) h g = with_same s z.side (no_timer (side s z.side) z.machine) (λ w. refl)
work_same s (pick_next now) h g =
    choose_same s now h.sound (ltb-false moment_limit now (none_met (table s (pick_next now)) g).1.0) (free_reserved s h)
work_same s (sim_network_stack now r) h g =
    by_if
    (λ (d : Called). Same s d.state)
    (fits (after_step s now r (kind_of r.kind)).sums)
    (after_step_same s now r (kind_of r.kind) h.sound h.whole (none_met (table s (sim_network_stack now r)) g).1.1.1.1.1.0)
    (ended_same s)

-- a call leaves the same records, each as often
pub call_same : (s : State) (c : Call) → Accepted s → Same s (call s c).state
unfolding call
call_same s c h = go (refusal s c) refl
  where
    go : (o : Option ℕ) → refusal s c ≡ o → Same s (unless_refused o s (work s c)).state
    go none g = work_same s c h g
    go (some n) g = λ w. refl
