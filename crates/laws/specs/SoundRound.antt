-- A round, and a choice, leave a sound state.
use Rattle.std.specs.Prelude.{ℕ, zero, suc, ◌+◌, ◌≤◌, ◌<◌, ◌≡◌, refl, true, false, List, map, eqb, get_or}
use Rattle.std.proofs.Common.{ap, ◌∙◌, subst, arith}
use Rattle.std.proofs.Math.Path.{subst⁻¹}
use Rattle.std.proofs.Math.Option.{none, some}
use Rattle.rules.specs.Basics.{Side, client, server}
use Rattle.rules.specs.State.{Action, ActionKind, SendPadding, BlockOutgoing, Held, Aggregate, Fixed, SideState, State, with_block, side, with_side, with_ended, rounds_left}
use Rattle.rules.specs.Limits.{moment_limit}
use Rattle.rules.specs.ChoiceHeads.{waiting_head}
use Rattle.rules.specs.Queueing.{chain_of, push_event}
use Rattle.rules.specs.ChoiceDelays.{Block}
use Rattle.rules.specs.ChoiceRound.{Slot, Candidate, an_aggregate, a_block, an_event, a_timer, an_action, none_left, RoundOutcome, next, taken, nothing, passed, act, closed, counted, candidate, candidate_sums, round, always_sums, round_sums, fits, clear_block, end_block, end_event, end_aggregates, end_moment, timer_cleared, no_timer, timer_event, no_action, sets_block, acted_side, acted_event, action_sums, do_action, action_in}
use Rattle.rules.specs.Choice.{rounds, settle, choose}
use Rattle.laws.specs.Branches.{by_if, by_test}
use Rattle.laws.specs.Counts.{side_with}
use Rattle.laws.specs.Found.{Found, found}
use Rattle.laws.specs.Falls.{state_after}
use Rattle.laws.specs.Fits.{All, all_append_right, fits_all}
use Rattle.laws.specs.Order.{in_order, aggregate_before}
use Rattle.laws.specs.Sound.{ActionOk, AggregateOk, EndOk, EventOk, SideOk, Sound, end_ok, no_action_ok, no_timer_ok, sound_side, sound_with}
use Rattle.laws.specs.SoundChains.{add_sound, aggregate_sound, both_ok, held_le, new_lengths, push_sound, push_sound_at, take_sound}

clear_sound : (s : State) (now : ℕ) (k : Block) → Sound s → end_moment now k ≤ moment_limit → All (λ (n : ℕ). n ≤ moment_limit) (map (λ (a : Aggregate). a.moment) (end_aggregates s now k)) → Sound (clear_block s now k)
unfolding clear_block
clear_sound s now k h e m =
    let z : Side = k.side in
    let x : SideState = with_block (side s z) none (side s z).block_bypassable in
    add_sound
    (with_side s z x)
    (end_aggregates s now k)
    (sound_with s z x h (end_ok z (side s z) none (side s z).block_bypassable (sound_side h z) tt))
    (both_ok (end_moment now k) (end_aggregates s now k) e m
    (new_lengths s.settings.network_delay z (end_moment now k) (end_moment now k) _ (held_le (side s z) (end_moment now k) (waiting_head false (side s z)))))

-- ---- timers and actions

timer_sound : (s : State) (z : Slot) (t : ℕ) → Sound s → get_or (side s z.side).timers z.machine none ≡ some t → Sound (push_event (timer_cleared s z) (timer_event z t))
unfolding timer_cleared
timer_sound s z t h g =
    let x : SideState = side s z.side in
    let o : SideOk z.side x = sound_side h z.side in
    let y : SideState = no_timer x z.machine in
    let f : (t ≤ moment_limit) × (z.machine < x.fixed.machines) = o.timers z.machine t g in
    push_sound
    (with_side s z.side y)
    (timer_event z t)
    (sound_with s z.side y h (no_timer_ok z.side x z.machine o))
    (record {
      of_side = refl;
      of_chain = refl;
      moment = f.0;
      delay = omega arith;
      machine = subst⁻¹ (λ (w : SideState). z.machine < w.fixed.machines) (side_with s z.side y) f.1;
    })

acted_ok :
    (k : ActionKind) (z : Side) (x : SideState) (a : Action) (m : ℕ) → SideOk z x → All (λ (n : ℕ). n ≤ moment_limit) (action_sums k x a)
    → SideOk z (no_action (acted_side k x a) m)
acted_ok SendPadding z x a m o f = no_action_ok z x m o
acted_ok BlockOutgoing z x a m o f =
    by_if
    (λ (y : SideState). SideOk z (no_action y m))
    (sets_block x a)
    (no_action_ok z (with_block x (some (a.moment + a.duration)) a.bypass) m (end_ok z x (some (a.moment + a.duration)) a.bypass o f.0))
    (no_action_ok z x m o)

acted_fixed : (k : ActionKind) (x : SideState) (a : Action) → (acted_side k x a).fixed ≡ x.fixed
acted_fixed SendPadding x a = refl
acted_fixed BlockOutgoing x a = by_if (λ (y : SideState). y.fixed ≡ x.fixed) (sets_block x a) refl refl

-- the event that an action queues
event_ok :
    (k : ActionKind) (n : ℕ) (x y : SideState) (z : Slot) (a : Action) → SideOk z.side x → y.fixed ≡ x.fixed → All (λ (j : ℕ). j ≤ moment_limit) (action_sums k x a)
    → a.moment ≤ moment_limit → z.machine < n → EventOk n z.side (chain_of (acted_event k y z a)) (acted_event k y z a)
event_ok SendPadding n x y z a o e f m i =
    let ad : y.fixed.action_delay ≡ x.fixed.action_delay = ap (λ (w : Fixed). w.action_delay) e in
    record { of_side = refl; of_chain = refl; moment = m; delay = omega (arith, o.action); machine = i }
event_ok BlockOutgoing n x y z a o e f m i =
    let ad : y.fixed.action_delay ≡ x.fixed.action_delay = ap (λ (w : Fixed). w.action_delay) e in
    let rd : y.fixed.reporting_delay ≡ x.fixed.reporting_delay = ap (λ (w : Fixed). w.reporting_delay) e in
    record { of_side = refl; of_chain = refl; moment = omega (arith, f.1.0); delay = omega (arith, o.action, o.reporting); machine = i }

action_sound :
    (s : State) (z : Slot) (a : Action) → Sound s → action_in s z ≡ some a → All (λ (n : ℕ). n ≤ moment_limit) (action_sums a.kind (side s z.side) a)
    → Sound (do_action s z a)
unfolding do_action
action_sound s z a h g f =
    let x : SideState = side s z.side in
    let o : SideOk z.side x = sound_side h z.side in
    let y : SideState = acted_side a.kind x a in
    let w : SideState = no_action y z.machine in
    let c : ActionOk a × (z.machine < x.fixed.machines) = o.actions z.machine a g in
    let same : (side (with_side s z.side w) z.side).fixed ≡ x.fixed = ap (λ (v : SideState). v.fixed) (side_with s z.side w) ∙ acted_fixed a.kind x a in
    push_sound_at
    (with_side s z.side w)
    (acted_event a.kind y z a)
    z.side
    (sound_with s z.side w h (acted_ok a.kind z.side x a z.machine o f))
    (subst⁻¹ (λ (v : Fixed). EventOk v.machines z.side (chain_of (acted_event a.kind y z a)) (acted_event a.kind y z a)) same (event_ok a.kind x.fixed.machines x y z a o (acted_fixed a.kind x a) f c.0.0 c.1))

-- ---- the round

block_sound :
    (s : State) (now : ℕ) (k : Block) → Sound s → now ≤ moment_limit → (side s k.side).block_end ≡ some k.end
    → All (λ (n : ℕ). n ≤ moment_limit) (candidate_sums s now (a_block k)) → Sound (state_after (end_block s now k))
block_sound s now k h n g f =
    let o : SideOk k.side (side s k.side) = sound_side h k.side in
    let e : k.end ≤ moment_limit = subst EndOk g o.end in
    let c : Sound (clear_block s now k) = clear_sound s now k h (omega arith) f.1 in
    by_if
    (λ (r : RoundOutcome). Sound (state_after r))
    (eqb (side s k.side).fixed.reporting_delay 0)
    c
    (push_sound
    (clear_block s now k)
    (end_event s now k)
    c
    (record { of_side = refl; of_chain = refl; moment = f.0; delay = omega (arith, o.reporting); machine = refl }))

act_sound :
    (s : State) (now : ℕ) (c : Candidate) → Sound s → now ≤ moment_limit → Found s c → All (λ (n : ℕ). n ≤ moment_limit) (candidate_sums s now c)
    → Sound (state_after (act s now c))
act_sound s now (an_aggregate a) h n g f = aggregate_sound s a h f.0
act_sound s now (a_block k) h n g f = block_sound s now k h n g f
act_sound s now (an_event e) h n g f = take_sound s e h
act_sound s now (a_timer z t) h n g f = timer_sound s z t h g
act_sound s now (an_action z a) h n g f = action_sound s z a h g f
act_sound s now none_left h n g f = h

-- what the rounds never touch: the sound parts stay where the round total or the ended mark changes
pub same_sound : (s t : State) → Sound s → t.client ≡ s.client → t.server ≡ s.server → t.aggregates ≡ s.aggregates → Sound t
same_sound s t h c r a =
    record {
      client = subst⁻¹ (SideOk client) c h.client;
      server = subst⁻¹ (SideOk server) r h.server;
      aggregates = subst⁻¹ (All (λ (b : Held Aggregate). AggregateOk b.value)) a h.aggregates;
      order = subst⁻¹ (λ (l : List (Held Aggregate)). in_order aggregate_before l ≡ true) a h.order;
    }

closed_sound : (o : RoundOutcome) → Sound (state_after o) → Sound (state_after (closed o))
closed_sound (next t) h = same_sound t (counted t) h refl refl refl
closed_sound (taken e t) h = same_sound t (counted t) h refl refl refl
closed_sound (nothing t) h = same_sound t (counted t) h refl refl refl
closed_sound (passed t) h = h

-- a round leaves every chain in order and every value inside its limits
pub round_sound : (s : State) (now : ℕ) → Sound s → now ≤ moment_limit → Sound (state_after (round s now))
unfolding round round_sums
round_sound s now h n =
    let c : Candidate = candidate s now in
    by_test
    (λ (r : RoundOutcome). Sound (state_after r))
    (fits (round_sums s now c))
    (λ e.
    closed_sound
    (act s now c)
    (act_sound s now c h n (found s now) (all_append_right (λ (k : ℕ). k ≤ moment_limit) (always_sums s) (candidate_sums s now c) (fits_all (round_sums s now c) e))))
    (λ e. same_sound s (with_ended s true) h refl refl refl)

rounds_sound : (f now k : ℕ) (s : State) → Sound s → now ≤ moment_limit → Sound (rounds f now k s).state
unfolding rounds
rounds_sound zero now k s h n = h
rounds_sound (suc f) now k s h n = go (round s now) (round_sound s now h n) (λ t g. rounds_sound f now (k + 1) t g n)
  where
    go :
        (o : RoundOutcome) → Sound (state_after o) → ((t : State) → Sound t → Sound (rounds f now (k + 1) t).state)
        → Sound (settle k (λ (t : State). rounds f now (k + 1) t) o).state
    go (next t) g ih = ih t g
    go (taken e t) g ih = g
    go (nothing t) g ih = g
    go (passed t) g ih = g

-- a choice
pub choose_sound : (s : State) (now : ℕ) → Sound s → now ≤ moment_limit → Sound (choose s now).state
unfolding choose
choose_sound s now h n = rounds_sound (suc (rounds_left s)) now 0 s h n
