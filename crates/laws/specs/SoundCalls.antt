-- Every call leaves a sound state.
use Rattle.std.specs.Prelude.{ℕ, zero, suc, ◌≤◌, ◌<◌, ◌≡◌, refl, ◌⊎◌, Bool, true, false, ◌&&◌, List, [], ◌∷◌, leb, ltb, length, set, get_or, if◌then◌else◌}
use Rattle.std.proofs.Common.{ap, ◌∙◌, subst, inl, inr, arith, length-set, leb-false, ltb-false}
use Rattle.std.proofs.Math.Option
use Rattle.std.proofs.Math.Option.{Option, none, some, map, none-ne-some, some-injective}
use Rattle.rules.specs.Basics.{Side, client, server, Kind, kind_of, has_machine, has_machine_no}
use Rattle.rules.specs.State.{ActionKind, SendPadding, BlockOutgoing, SideState, State, with_timers, with_actions, with_ended, side, used}
use Rattle.rules.specs.Limits.{moment_limit, duration_limit, delay_limit}
use Rattle.rules.specs.Queueing.{chain_of}
use Rattle.rules.specs.ChoiceRound.{Slot, fits, timer_cleared, action_cleared, no_timer, no_action}
use Rattle.rules.specs.Choice.{Called}
use Rattle.rules.specs.Arguments.{Call, EventIn, ActionIn, push, set_action, clear_action, set_timer, clear_timer, pick_next, sim_network_stack, event_of, action_of, action_kind_of, kept_duration}
use Rattle.rules.specs.Effects.{after_push, after_set_action, after_step, timer_set}
use Rattle.rules.specs.Refusals.{event_too_large, action_too_large, no_machine, table, refusal}
use Rattle.rules.specs.Calls.{work, unless_refused, call}
use Rattle.laws.specs.Branches.{by_test, neither_true}
use Rattle.laws.specs.CallRuns.{AllFalse, none_met}
use Rattle.laws.specs.Fits.{fits_all}
use Rattle.laws.specs.Sound.{DurationOk, ActionOk, MachineOk, EventOk, SlotsOk, SideOk, Sound, sound_side, sound_with, timers_ok, actions_ok, no_timer_ok, no_action_ok}
use Rattle.laws.specs.SoundChains.{push_sound_at}
use Rattle.laws.specs.SoundRound.{same_sound, choose_sound}
use Rattle.laws.specs.Accepted.{Accepted}
use Rattle.laws.specs.SoundStep.{after_step_leaves}

-- ---- push

machine_ok : (b : Bool) (n m : ℕ) → (b && leb n m) ≡ false → MachineOk b n (if b then m else 0)
machine_ok true n m h = leb-false n m h
machine_ok false n m h = refl

in_ok :
    (s : State) (r : EventIn) (k : Kind) (z : Side) → r.side ≡ z → (has_machine k && leb (side s z).fixed.machines r.machine) ≡ false → event_too_large r ≡ false
    → EventOk (side s z).fixed.machines z (chain_of (event_of r k)) (event_of r k)
in_ok s r k z e m l =
    let g : (ltb moment_limit r.moment ≡ false) × (ltb delay_limit r.delay ≡ false) = neither_true (ltb moment_limit r.moment) (ltb delay_limit r.delay) l in
    record {
      of_side = e;
      of_chain = refl;
      moment = ltb-false moment_limit r.moment g.0;
      delay = ltb-false delay_limit r.delay g.1;
      machine = machine_ok (has_machine k) (side s z).fixed.machines r.machine m;
    }

push_leaves :
    (s : State) (r : EventIn) (o : Option Kind) → Sound s
    → (Option.get_or (map has_machine o) false && leb (side s r.side).fixed.machines r.machine) ≡ false → event_too_large r ≡ false → Sound (after_push s r o)
push_leaves s r none h m l = h
push_leaves s r (some k) h m l = push_sound_at s (event_of r k) r.side h (in_ok s r k r.side refl m l)

-- ---- setting and clearing

set_held :
    {A : Type 0} (l : List (Option A)) (i m : ℕ) (v : A) {a : A} → get_or (set l i (some v)) m none ≡ some a
    → ((i ≡ m) × (v ≡ a)) ⊎ (get_or l m none ≡ some a)
set_held [] i m v {a} h = absurd (none-ne-some a h)
set_held (x ∷ l) zero zero v {a} h = inl (refl, some-injective v a h)
set_held (x ∷ l) zero (suc m) v h = inr h
set_held (x ∷ l) (suc i) zero v h = inr h
set_held (x ∷ l) (suc i) (suc m) v {a} h = up (set_held l i m v h)
  where
    up : ((i ≡ m) × (v ≡ a)) ⊎ (get_or l m none ≡ some a) → ((suc i ≡ suc m) × (v ≡ a)) ⊎ (get_or l m none ≡ some a)
    up (inl g) = inl (ap suc g.0, g.1)
    up (inr g) = inr g

slots_set : {A : Type 0} (P : A → Type 0) (n : ℕ) (l : List (Option A)) (i : ℕ) (v : A) → SlotsOk P n l → P v → i < n → SlotsOk P n (set l i (some v))
slots_set {A} P n l i v h p j = λ m a e. go m a (set_held l i m v e)
  where
    go : (m : ℕ) (a : A) → ((i ≡ m) × (v ≡ a)) ⊎ (get_or l m none ≡ some a) → P a × (m < n)
    go m a (inl g) = (subst P g.1 p, omega (arith, g.0))
    go m a (inr g) = h m a g

set_timer_leaves : (s : State) (z : Slot) (t : ℕ) → Sound s → no_machine s z ≡ false → ltb moment_limit t ≡ false → Sound (timer_set s z t)
unfolding timer_set
set_timer_leaves s z t h m l =
    let x : SideState = side s z.side in
    let o : SideOk z.side x = sound_side h z.side in
    sound_with s z.side (with_timers x (set x.timers z.machine (some t))) h
    (timers_ok z.side x (set x.timers z.machine (some t)) o (length-set x.timers z.machine (some t) ∙ o.timer_slots)
    (slots_set (λ (u : ℕ). u ≤ moment_limit) x.fixed.machines x.timers z.machine t o.timers (ltb-false moment_limit t l) (leb-false x.fixed.machines z.machine m)))

kept_ok : (k : ActionKind) (d : ℕ) → ltb duration_limit (kept_duration k d) ≡ false → DurationOk k (kept_duration k d)
kept_ok SendPadding d h = refl
kept_ok BlockOutgoing d h = ltb-false duration_limit d h

set_action_leaves : (s : State) (z : Slot) (r : ActionIn) (k : Option ActionKind) → Sound s → no_machine s z ≡ false → action_too_large r k ≡ false → Sound (after_set_action s z r k)
set_action_leaves s z r none h m l = h
set_action_leaves s z r (some k) h m l =
    let x : SideState = side s z.side in
    let o : SideOk z.side x = sound_side h z.side in
    let g : (ltb moment_limit r.moment ≡ false) × (ltb duration_limit (kept_duration k r.duration) ≡ false) = neither_true (ltb moment_limit r.moment) (ltb duration_limit (kept_duration k r.duration)) l in
    sound_with s z.side (with_actions x (set x.actions z.machine (some (action_of r k)))) h
    (actions_ok z.side x (set x.actions z.machine (some (action_of r k))) o (length-set x.actions z.machine (some (action_of r k)) ∙ o.action_slots)
    (slots_set ActionOk x.fixed.machines x.actions z.machine (action_of r k) o.actions (ltb-false moment_limit r.moment g.0, kept_ok k r.duration g.1) (leb-false x.fixed.machines z.machine m)))

clear_timer_leaves : (s : State) (z : Slot) → Sound s → Sound (timer_cleared s z)
unfolding timer_cleared
clear_timer_leaves s z h =
    let x : SideState = side s z.side in
    sound_with s z.side (no_timer x z.machine) h (no_timer_ok z.side x z.machine (sound_side h z.side))

clear_action_leaves : (s : State) (z : Slot) → Sound s → Sound (action_cleared s z)
unfolding action_cleared
clear_action_leaves s z h =
    let x : SideState = side s z.side in
    sound_with s z.side (no_action x z.machine) h (no_action_ok z.side x z.machine (sound_side h z.side))

few_stamps : (s : State) (z : Side) → length (side s z).stamps ≤ used s
unfolding used
few_stamps s client = omega arith
few_stamps s server = omega arith

ended_sound : (s : State) → Sound s → Sound (with_ended s true)
ended_sound s h = same_sound s (with_ended s true) h refl refl refl

work_leaves : (s : State) (c : Call) → Accepted s → refusal s c ≡ none → Sound (work s c).state
unfolding work refusal table has_machine_no
work_leaves s (push r) h g =
    let t : AllFalse (table s (push r)) = none_met (table s (push r)) g in
    push_leaves s r (kind_of r.kind) h.sound t.1.0 t.1.1.1.0
work_leaves s (set_action z r) h g =
    let t : AllFalse (table s (set_action z r)) = none_met (table s (set_action z r)) g in
    set_action_leaves s z r (action_kind_of r.kind) h.sound t.1.0 t.1.1.1.0
work_leaves s (clear_action z) h g = clear_action_leaves s z h.sound
work_leaves s (set_timer z u) h g =
    let t : AllFalse (table s (set_timer z u)) = none_met (table s (set_timer z u)) g in
    set_timer_leaves s z u h.sound t.1.0 t.1.1.0
work_leaves s (clear_timer z) h g = clear_timer_leaves s z h.sound
work_leaves s (pick_next now) h g =
    let t : AllFalse (table s (pick_next now)) = none_met (table s (pick_next now)) g in
    choose_sound s now h.sound (ltb-false moment_limit now t.1.0)
work_leaves s (sim_network_stack now r) h g =
    let t : AllFalse (table s (sim_network_stack now r)) = none_met (table s (sim_network_stack now r)) g in
    let l : (ltb moment_limit now ≡ false) × (event_too_large r ≡ false) = neither_true (ltb moment_limit now) (event_too_large r) t.1.1.1.0 in
    let m : (ltb moment_limit r.moment ≡ false) × (ltb delay_limit r.delay ≡ false) = neither_true (ltb moment_limit r.moment) (ltb delay_limit r.delay) l.1 in
    by_test
    (λ (d : Called). Sound d.state)
    (fits (after_step s now r (kind_of r.kind)).sums)
    (λ e.
    after_step_leaves s now r (kind_of r.kind) h.sound (ltb-false moment_limit now l.0) h.settings.window (omega (arith, few_stamps s r.side, h.room, h.size))
    (ltb-false moment_limit r.moment m.0) (ltb-false delay_limit r.delay m.1) (fits_all (after_step s now r (kind_of r.kind)).sums e))
    (λ e. ended_sound s h.sound)

-- a call, refused or not
pub call_sound : (s : State) (c : Call) → Accepted s → Sound (call s c).state
unfolding call
call_sound s c h = go (refusal s c) refl
  where
    go : (o : Option ℕ) → refusal s c ≡ o → Sound (unless_refused o s (work s c)).state
    go none g = work_leaves s c h g
    go (some n) g = h.sound
