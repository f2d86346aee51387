-- A network step whose sums fit leaves a sound state.
use Rattle.std.specs.Prelude.{ℕ, suc, ◌+◌, ◌-◌, ◌*◌, ◌≤◌, ◌≡◌, refl, Bool, true, false, ◌&&◌, ltb, length, if◌then◌else◌}
use Rattle.std.proofs.Common.{ap, arith, le_trans, mul-le-mul, div-le_self, lit≤, length-append}
use Rattle.std.proofs.Math.Path.{subst⁻¹}
use mathlib.Core.List.{List, [], ◌∷◌, ◌++◌, map, tail}
use Rattle.std.proofs.Math.Option.{Option, none, some}
use Rattle.rules.specs.Basics.{Side, client, server, other, Kind, has_machine, TunnelSent, NormalSent, PaddingSent, TunnelRecv, NormalRecv, PaddingRecv, BlockingBegin, BlockingEnd, TimerBegin, TimerEnd}
use Rattle.rules.specs.State.{Event, Held, in_record, Aggregate, SideState, State, Fixed, with_stamps, free_place, side, with_side, queue}
use Rattle.rules.specs.Limits.{moment_limit, duration_limit, delay_limit, record_limit}
use Rattle.rules.specs.ChoiceHeads.{Head, waiting_head}
use Rattle.rules.specs.Queueing.{put_event, chain_of}
use Rattle.rules.specs.Aggregates.{on_replace, on_delayed, test_sums, aggregates_of, add_aggregates, any_within, adjacent_window, waiting, within, base_window, base_moment}
use Rattle.rules.specs.ChoiceRound.{lift_event, pop_side}
use Rattle.rules.specs.NetworkStep.{Stepped, step_for, step_tunnel, step_padding, replace_by, replacing, as_padding, packet, let_pass, stamps_kept, free_with_evicted, stamped, stamp, extra_over, rate_of, reported}
use Rattle.rules.specs.Arguments.{EventIn, event_of}
use Rattle.rules.specs.Effects.{after_step}
use Rattle.laws.specs.Branches.{by_if}
use Rattle.laws.specs.Counts.{side_with}
use Rattle.laws.specs.Fits.{All, all_append_left, all_append_right, all_head}
use Rattle.laws.specs.Sound.{MachineOk, EventOk, SideOk, Sound, sound_side, sound_with}
use Rattle.laws.specs.SoundChains.{free_sound, put_sound, push_sound, push_sound_at, lift_sound, add_sound, AtMost, new_lengths, both_ok}
use Rattle.laws.specs.Heads.{HeadIn, waiting_in}

-- ---- packets, and `PaddingSent`

-- a packet's event: its kind has no machine
packet_ok :
    (n : ℕ) (k : Kind) (t d : ℕ) (z : Side) (p b r : Bool) → has_machine k ≡ false → t ≤ moment_limit → d ≤ delay_limit
    → EventOk n z (chain_of (packet k t d z p b r)) (packet k t d z p b r)
packet_ok n k t d z p b r e ht hd =
    record { of_side = refl; of_chain = refl; moment = ht; delay = hd; machine = subst⁻¹ (λ (q : Bool). MachineOk q n 0) e refl }

-- the waiting head is an event of its chain
abbrev HeadOk : ℕ → Side → Option Head → Type 0
HeadOk n z none = Unit
HeadOk n z (some g) = EventOk n z g.chain g.event

waiting_ok : (z : Side) (x : SideState) (flag : Bool) → SideOk z x → HeadOk x.fixed.machines z (waiting_head flag x)
waiting_ok z x flag o = go (waiting_head flag x) (waiting_in z x flag o)
  where
    go : (h : Option Head) → HeadIn z x h → HeadOk x.fixed.machines z h
    go none i = tt
    go (some h) i = all_head (λ (e : Held Event). EventOk x.fixed.machines z h.chain e.value) (queue x.queues h.chain) (o.chains h.chain).events i.1

own_leaves : (s : State) (e : Event) → Sound s → e.moment ≤ moment_limit → e.delay ≤ delay_limit → Sound (as_padding s e).state
own_leaves s e h t d = push_sound s (packet TunnelSent e.moment e.delay e.side true e.bypass e.replace) h (packet_ok _ TunnelSent e.moment e.delay e.side true e.bypass e.replace refl t d)

replace_le : (x : SideState) (now u : ℕ) → AtMost now (on_replace x now u)
unfolding on_replace
replace_le x now u =
    by_if (AtMost now) (any_within adjacent_window u (waiting x)) tt
    (by_if (AtMost now) (within base_window u (base_moment x.sum x.queues.base)) tt (omega arith))

lifted_fixed : (s : State) (g : Head) → (side (lift_event s g) g.event.side).fixed ≡ (side s g.event.side).fixed
unfolding lift_event
lifted_fixed s g = ap (λ (x : SideState). x.fixed) (side_with s g.event.side (pop_side (side s g.event.side) g.chain))

replace_leaves :
    (s : State) (now : ℕ) (g : Head) → Sound s → now ≤ moment_limit → HeadOk (side s g.event.side).fixed.machines g.event.side (some g)
    → All (λ (n : ℕ). n ≤ moment_limit) (replace_by s now g).sums → Sound (replace_by s now g).state
unfolding replace_by
replace_leaves s now g h n k f =
    let w : Event = g.event in
    let z : Side = w.side in
    let t : State = lift_event s g in
    let x : SideState = side t z in
    let new : List Aggregate = aggregates_of s.settings.network_delay z now (on_replace x now w.moment) in
    let m : All (λ (j : ℕ). j ≤ moment_limit) (map (λ (a : Aggregate). a.moment) new) =
    all_append_right (λ (j : ℕ). j ≤ moment_limit) (test_sums x x.sum w.moment) (map (λ (a : Aggregate). a.moment) new) f in
    let p : Sound (put_event t (in_record g.place (let_pass w))) =
    put_sound t (in_record g.place (let_pass w)) (lift_sound s g h)
    (subst⁻¹ (λ (v : Fixed). EventOk v.machines z (chain_of (let_pass w)) (let_pass w)) (lifted_fixed s g)
    (record { of_side = refl; of_chain = refl; moment = k.moment; delay = k.delay; machine = k.machine })) in
    add_sound (put_event t (in_record g.place (let_pass w))) new p
    (both_ok now new n m (new_lengths s.settings.network_delay z now now (on_replace x now w.moment) (replace_le x now w.moment)))

-- the sums that a step forms all fit
abbrev Fit : Stepped → Type 0
Fit r = All (λ (n : ℕ). n ≤ moment_limit) r.sums

replacing_leaves :
    (s : State) (now : ℕ) (e : Event) (o : Option Head) → Sound s → now ≤ moment_limit → e.moment ≤ moment_limit → e.delay ≤ delay_limit
    → HeadOk (side s e.side).fixed.machines e.side o → Fit (replacing s now e o) → Sound (replacing s now e o).state
replacing_leaves s now e none h n t d k f = own_leaves s e h t d
replacing_leaves s now e (some g) h n t d k f =
    by_if
    (λ (r : Stepped). Fit r → Sound r.state)
    g.event.padding
    (λ f. own_leaves s e h t d)
    (by_if
    (λ (r : Stepped). Fit r → Sound r.state)
    e.bypass
    (λ f. replace_leaves s now g h n (subst⁻¹ (λ (z : Side). EventOk (side s z).fixed.machines z g.chain g.event) k.of_side k) f)
    (λ f. h))
    f

padding_leaves : (s : State) (now : ℕ) (e : Event) → Sound s → now ≤ moment_limit → e.moment ≤ moment_limit → e.delay ≤ delay_limit → Fit (step_padding s now e) → Sound (step_padding s now e).state
unfolding step_padding
padding_leaves s now e h n t d =
    let x : SideState = side s e.side in
    by_if
    (λ (r : Stepped). Fit r → Sound r.state)
    e.replace
    (λ f. replacing_leaves s now e (waiting_head x.block_bypassable x) h n t d (waiting_ok e.side x x.block_bypassable (sound_side h e.side)) f)
    (λ f. own_leaves s e h t d)

-- ---- stamps, and `TunnelSent`

evict_all : (P : Held ℕ → Type 0) (w now : ℕ) (l : List (Held ℕ)) → All P l → All P (stamps_kept w now l)
evict_all P w now [] h = tt
evict_all P w now (t ∷ l) h = by_if (All P) (ltb w (now - t.value)) (evict_all P w now l h.1) h

all_last : {A : Type 0} (P : A → Type 0) (a : A) (l : List A) → P a → All P l → All P (l ++ (a ∷ []))
all_last P a [] p h = (p, tt)
all_last P a (t ∷ l) p h = (h.0, all_last P a l p h.1)

evict_le : (w now : ℕ) (l : List (Held ℕ)) → length (stamps_kept w now l) ≤ length l
evict_le w now [] = omega arith
evict_le w now (t ∷ l) =
    by_if (λ (m : List (Held ℕ)). length m ≤ suc (length l)) (ltb w (now - t.value)) (omega (arith, evict_le w now l)) (omega arith)

stamps_ok : (z : Side) (x : SideState) (l : List (Held ℕ)) → SideOk z x → All (λ (t : Held ℕ). t.value ≤ moment_limit) l → SideOk z (with_stamps x l)
stamps_ok z x l o h =
    record { action = o.action; reporting = o.reporting; machines = o.machines; chains = o.chains; sum = o.sum; stamps = h; timer_slots = o.timer_slots; action_slots = o.action_slots; end = o.end; timers = o.timers; actions = o.actions }

pub stamp_sound : (s : State) (z : Side) (now : ℕ) → Sound s → now ≤ moment_limit → Sound (stamp s z now)
unfolding stamp
stamp_sound s z now h n =
    let x : SideState = side s z in
    let w : ℕ = s.settings.window in
    let f : List ℕ = free_with_evicted w now x.stamps s.free in
    let st : List (Held ℕ) = stamped w now x.stamps s.free in
    let P : Held ℕ → Type 0 = λ (t : Held ℕ). t.value ≤ moment_limit in
    free_sound (with_side s z (with_stamps x st)) (tail f)
    (sound_with s z (with_stamps x st) h
    (stamps_ok z x st (sound_side h z) (all_last P (in_record (free_place f) now) (stamps_kept w now x.stamps) n (evict_all P w now x.stamps (sound_side h z).stamps))))

-- a side after a stamp has at most one stamp more
stamp_few : (s : State) (z : Side) (now : ℕ) → length (side (stamp s z now) z).stamps ≤ suc (length (side s z).stamps)
unfolding stamp
stamp_few s client now =
    let w : ℕ = s.settings.window in
    omega (arith, evict_le w now s.client.stamps, length-append (stamps_kept w now s.client.stamps) (in_record (free_place (free_with_evicted w now s.client.stamps s.free)) now ∷ []))
stamp_few s server now =
    let w : ℕ = s.settings.window in
    omega (arith, evict_le w now s.server.stamps, length-append (stamps_kept w now s.server.stamps) (in_record (free_place (free_with_evicted w now s.server.stamps s.free)) now ∷ []))

extra_le : (w c : ℕ) (o : Option ℕ) → extra_over w c o ≤ w * c
extra_le w c none = omega arith
extra_le w c (some p) = by_if (λ (n : ℕ). n ≤ w * c) (ltb p c) (mul-le-mul (div-le_self w p) (omega arith)) (omega arith)

extra_small : (w c : ℕ) (o : Option ℕ) → w ≤ duration_limit → c ≤ record_limit + 1 → extra_over w c o ≤ moment_limit
extra_small w c o hw hc = le_trans (extra_le w c o) (le_trans (mul-le-mul hw hc) (lit≤ tt))

tunnel_leaves :
    (s : State) (now : ℕ) (e : Event) → Sound s → now ≤ moment_limit → s.settings.window ≤ duration_limit → length (side s e.side).stamps ≤ record_limit
    → Fit (step_tunnel s now e) → Sound (step_tunnel s now e).state
unfolding step_tunnel
tunnel_leaves s now e h n hw hc f =
    let z : Side = e.side in
    let x : SideState = side s z in
    let w : ℕ = s.settings.window in
    let t₀ : State = stamp s z now in
    let count : ℕ = length (side t₀ z).stamps in
    let rate : Option ℕ = rate_of s.settings.network_rate s.settings.queue_rate in
    let extra : ℕ = extra_over w count rate in
    let few : count ≤ record_limit + 1 = omega (arith, stamp_few s z now) in
    let small : extra ≤ moment_limit = extra_small w count rate hw few in
    let q : Option ℕ = if ltb 0 extra && on_delayed x s.client.sum e.moment then some extra else none in
    let new : List Aggregate = aggregates_of s.settings.network_delay z now q in
    let r : ℕ = (side s (other z)).fixed.reporting_delay in
    let t : ℕ = reported e now (extra + s.settings.network_delay) r in
    let tests : List ℕ = if ltb 0 extra then test_sums x s.client.sum e.moment else [] in
    let moments : List ℕ = map (λ (a : Aggregate). a.moment) new in
    let m : All (λ (j : ℕ). j ≤ moment_limit) moments =
    all_append_right (λ (j : ℕ). j ≤ moment_limit) tests moments (all_append_left (λ (j : ℕ). j ≤ moment_limit) (tests ++ moments) (t ∷ []) f) in
    let tl : All (λ (j : ℕ). j ≤ moment_limit) (t ∷ []) = all_append_right (λ (j : ℕ). j ≤ moment_limit) (tests ++ moments) (t ∷ []) f in
    let most : AtMost moment_limit q = by_if (AtMost moment_limit) (ltb 0 extra && on_delayed x s.client.sum e.moment) small tt in
    push_sound_at
    (add_aggregates t₀ new)
    (packet TunnelRecv t r (other z) e.padding false false)
    (other z)
    (add_sound t₀ new (stamp_sound s z now h n) (both_ok moment_limit new (omega arith) m (new_lengths s.settings.network_delay z now moment_limit q most)))
    (packet_ok _ TunnelRecv t r (other z) e.padding false false refl tl.0 (omega (arith, (sound_side h (other z)).reporting)))

-- ---- the step, kind by kind

step_leaves :
    (s : State) (now : ℕ) (e : Event) (k : Kind) → Sound s → now ≤ moment_limit → s.settings.window ≤ duration_limit → length (side s e.side).stamps ≤ record_limit
    → e.moment ≤ moment_limit → e.delay ≤ delay_limit → Fit (step_for k s now e) → Sound (step_for k s now e).state
unfolding step_for
step_leaves s now e TunnelSent h n w c t d f = tunnel_leaves s now e h n w c f
step_leaves s now e NormalSent h n w c t d f =
    push_sound s (packet TunnelSent e.moment e.delay e.side false false false) h (packet_ok _ TunnelSent e.moment e.delay e.side false false false refl t d)
step_leaves s now e PaddingSent h n w c t d f = padding_leaves s now e h n t d f
step_leaves s now e TunnelRecv h n w c t d f =
    let k : Kind = if e.padding then PaddingRecv else NormalRecv in
    push_sound s (packet k e.moment e.delay e.side e.padding false false) h
    (packet_ok _ k e.moment e.delay e.side e.padding false false (by_if (λ (v : Kind). has_machine v ≡ false) e.padding refl refl) t d)
step_leaves s now e NormalRecv h n w c t d f = h
step_leaves s now e PaddingRecv h n w c t d f = h
step_leaves s now e BlockingBegin h n w c t d f = h
step_leaves s now e BlockingEnd h n w c t d f = h
step_leaves s now e TimerBegin h n w c t d f = h
step_leaves s now e TimerEnd h n w c t d f = h

-- as the calls hand their event in
pub after_step_leaves :
    (s : State) (now : ℕ) (r : EventIn) (k : Option Kind) → Sound s → now ≤ moment_limit → s.settings.window ≤ duration_limit → length (side s r.side).stamps ≤ record_limit
    → r.moment ≤ moment_limit → r.delay ≤ delay_limit → Fit (after_step s now r k) → Sound (after_step s now r k).state
after_step_leaves s now r none h n w c t d f = h
after_step_leaves s now r (some k) h n w c t d f = step_leaves s now (event_of r k) k h n w c t d f
