-- A network step reads values only.
use Rattle.std.specs.Prelude.{ℕ, ◌+◌, ◌-◌, ◌≡◌, refl, Bool, true, false, ◌&&◌, List, [], ◌∷◌, ◌++◌, map, ltb, length, if◌then◌else◌}
use Rattle.std.proofs.Common.{sym, ap, ◌∙◌}
use Rattle.std.proofs.Math.Option.{Option, none, some}
use Rattle.rules.specs.Basics.{Side, client, server, other, Kind, TunnelSent, NormalSent, PaddingSent, TunnelRecv, NormalRecv, PaddingRecv, BlockingBegin, BlockingEnd, TimerBegin, TimerEnd}
use Rattle.rules.specs.State.{Event, Held, in_record, Aggregate, SideState, State, with_stamps, side, with_side}
use Rattle.rules.specs.ChoiceHeads.{Head, waiting_head}
use Rattle.rules.specs.Queueing.{put_event, push_event}
use Rattle.rules.specs.Aggregates.{on_replace, on_delayed, test_sums, aggregates_of, add_aggregates}
use Rattle.rules.specs.ChoiceRound.{lift_event}
use Rattle.rules.specs.NetworkStep.{Stepped, packet, queueing, unmoved, as_padding, let_pass, replace_by, replacing, step_padding, stamps_kept, stamped, stamp, count_falls, rate_of, extra_over, reported, step_tunnel, step_for}
use Rattle.laws.specs.Unplaced.{unplaced_list, unplaced_side, unplaced_state, Alike, unplaced_length, unplaced_twice, unplaced_append, side_unplaced, unplaced_state_twice, settled, put_unplaced, push_unplaced, add_unplaced}
use Rattle.laws.specs.Branches.{if_both, if_alike}
use Rattle.laws.specs.UnplacedHeads.{unplaced_head, unplaced_found, waiting_head_unplaced}
use Rattle.laws.specs.UnplacedRound.{on_replace_unplaced, on_delayed_unplaced, test_sums_unplaced, lift_unplaced}

-- of what a step gives
abbrev pub unplaced_stepped : Stepped → Stepped
unplaced_stepped r = record { answer = r.answer; falls = r.falls; state = unplaced_state r.state; sums = r.sums }

-- a new event
pub push_alike : (s : State) (e : Event) → Alike (push_event s e) (push_event (unplaced_state s) e)
push_alike s e = settled (push_event s e) (push_event (unplaced_state s) e) (push_unplaced s e)

queueing_unplaced : (s : State) (a : Bool) (e : Event) → unplaced_stepped (queueing s a e) ≡ unplaced_stepped (queueing (unplaced_state s) a e)
queueing_unplaced s a e = ap (λ u. record { answer = a; falls = none; state = u; sums = [] }) (push_alike s e)

-- the step changes nothing
pub unmoved_unplaced : (s : State) (a : Bool) → unplaced_stepped (unmoved s a) ≡ unplaced_stepped (unmoved (unplaced_state s) a)
unmoved_unplaced s a = ap (λ u. record { answer = a; falls = none; state = u; sums = [] }) (sym (unplaced_state_twice s))

-- ---- `PaddingSent`

replace_unplaced : (s : State) (now : ℕ) (h : Head) → unplaced_stepped (replace_by s now h) ≡ unplaced_stepped (replace_by (unplaced_state s) now (unplaced_head h))
unfolding replace_by
replace_unplaced s now h =
    let w : Event = h.event in
    let t : State = lift_event s h in
    let x : SideState = side t w.side in
    let new : List Aggregate = aggregates_of s.settings.network_delay w.side now (on_replace x now w.moment) in
    let t' : State = lift_event (unplaced_state s) (unplaced_head h) in
    let x' : SideState = side t' w.side in
    let new' : List Aggregate = aggregates_of s.settings.network_delay w.side now (on_replace x' now w.moment) in
    let px : x' ≡ unplaced_side x = ap (λ u. side u w.side) (sym (lift_unplaced s h)) ∙ side_unplaced t w.side in
    let pn : new' ≡ new =
    ap (λ y. aggregates_of s.settings.network_delay w.side now (on_replace y now w.moment)) px
    ∙ ap (aggregates_of s.settings.network_delay w.side now) (on_replace_unplaced x now w.moment) in
    let pt : test_sums x' x'.sum w.moment ≡ test_sums x x.sum w.moment =
    ap (λ (y : SideState). test_sums y y.sum w.moment) px ∙ test_sums_unplaced x x.sum w.moment in
    let e : Held Event = in_record h.place (let_pass w) in
    let e' : Held Event = in_record 0 (let_pass w) in
    let q : Alike (add_aggregates (put_event t e) new) (add_aggregates (put_event t' e') new') =
    settled (add_aggregates (put_event t e) new) (add_aggregates (put_event t' e') new')
    (add_unplaced (put_event t e) new ∙ ap (λ u. add_aggregates u new) (put_unplaced t e) ∙ (λ d. add_aggregates (put_event (lift_unplaced s h d) e') (sym pn d))) in
    λ d. record { answer = false; falls = none; state = q d; sums = sym pt d ++ map (λ (a : Aggregate). a.moment) (sym pn d) }

own_unplaced : (s : State) (e : Event) → unplaced_stepped (as_padding s e) ≡ unplaced_stepped (as_padding (unplaced_state s) e)
own_unplaced s e = queueing_unplaced s false (packet TunnelSent e.moment e.delay e.side true e.bypass e.replace)

replacing_unplaced : (s : State) (now : ℕ) (e : Event) (o : Option Head) → unplaced_stepped (replacing s now e o) ≡ unplaced_stepped (replacing (unplaced_state s) now e (unplaced_found o))
replacing_unplaced s now e none = own_unplaced s e
replacing_unplaced s now e (some h) =
    if_alike unplaced_stepped h.event.padding (own_unplaced s e) (if_alike unplaced_stepped e.bypass (replace_unplaced s now h) (unmoved_unplaced s false))

padding_unplaced : (s : State) (now : ℕ) (e : Event) → unplaced_stepped (step_padding s now e) ≡ unplaced_stepped (step_padding (unplaced_state s) now e)
unfolding step_padding
padding_unplaced s now e =
    let x : SideState = side s e.side in
    let w : waiting_head (side (unplaced_state s) e.side).block_bypassable (side (unplaced_state s) e.side) ≡ unplaced_found (waiting_head x.block_bypassable x) =
    ap (λ (y : SideState). waiting_head y.block_bypassable y) (side_unplaced s e.side) ∙ waiting_head_unplaced x.block_bypassable x in
    if_alike
    unplaced_stepped
    e.replace
    (replacing_unplaced s now e (waiting_head x.block_bypassable x) ∙ ap (λ o. unplaced_stepped (replacing (unplaced_state s) now e o)) (sym w))
    (own_unplaced s e)

-- ---- `TunnelSent`

evict_unplaced : (w now : ℕ) (l : List (Held ℕ)) → unplaced_list (stamps_kept w now l) ≡ stamps_kept w now (unplaced_list l)
evict_unplaced w now [] = refl
evict_unplaced w now (t ∷ l) = sym (if_both unplaced_list (ltb w (now - t.value)) (sym (evict_unplaced w now l)) refl)

stamped_unplaced : (w now : ℕ) (l : List (Held ℕ)) (f : List ℕ) → unplaced_list (stamped w now l f) ≡ unplaced_list (stamped w now (unplaced_list l) [])
stamped_unplaced w now l f =
    unplaced_append (stamps_kept w now l) _
    ∙ (λ d. (sym (unplaced_twice (stamps_kept w now l)) ∙ ap unplaced_list (evict_unplaced w now l)) d ++ (in_record 0 now ∷ []))
    ∙ sym (unplaced_append (stamps_kept w now (unplaced_list l)) _)

stamp_alike : (s : State) (z : Side) (now : ℕ) → Alike (stamp s z now) (stamp (unplaced_state s) z now)
unfolding stamp
stamp_alike s client now =
    λ d. with_side (sym (unplaced_state_twice s) d) client (with_stamps (sym (unplaced_state_twice s) d).client (stamped_unplaced s.settings.window now s.client.stamps s.free d))
stamp_alike s server now =
    λ d. with_side (sym (unplaced_state_twice s) d) server (with_stamps (sym (unplaced_state_twice s) d).server (stamped_unplaced s.settings.window now s.server.stamps s.free d))

stamps_unplaced : (s : State) (z : Side) → length (side (unplaced_state s) z).stamps ≡ length (side s z).stamps
stamps_unplaced s client = unplaced_length s.client.stamps
stamps_unplaced s server = unplaced_length s.server.stamps

falls_of_list : (w : ℕ) (l : List (Held ℕ)) → count_falls w (unplaced_list l) ≡ count_falls w l
falls_of_list w [] = refl
falls_of_list w (t ∷ l) = refl

falls_unplaced : (s : State) (z : Side) (w : ℕ) → count_falls w (side (unplaced_state s) z).stamps ≡ count_falls w (side s z).stamps
falls_unplaced s client w = falls_of_list w s.client.stamps
falls_unplaced s server w = falls_of_list w s.server.stamps

tunnel_unplaced : (s : State) (now : ℕ) (e : Event) → unplaced_stepped (step_tunnel s now e) ≡ unplaced_stepped (step_tunnel (unplaced_state s) now e)
unfolding step_tunnel
tunnel_unplaced s now e = λ d. record { answer = true; falls = pf d; state = q d; sums = sums_of (pn d) (pb d) (pt d) (pr d) }
  where
    z : Side
    z = e.side

    t : State
    t = stamp s z now

    t' : State
    t' = stamp (unplaced_state s) z now

    extra_of : ℕ → ℕ
    extra_of n = extra_over s.settings.window n (rate_of s.settings.network_rate s.settings.queue_rate)

    new_of : ℕ → Bool → List Aggregate
    new_of n b = aggregates_of s.settings.network_delay z now (if ltb 0 (extra_of n) && b then some (extra_of n) else none)

    moment_of : ℕ → ℕ → ℕ
    moment_of n r = reported e now (extra_of n + s.settings.network_delay) r

    sums_of : ℕ → Bool → List ℕ → ℕ → List ℕ
    sums_of n b l r = (if ltb 0 (extra_of n) then l else []) ++ map (λ (a : Aggregate). a.moment) (new_of n b) ++ (moment_of n r ∷ [])

    sent : ℕ → ℕ → Event
    sent n r = packet TunnelRecv (moment_of n r) r (other z) e.padding false false

    pn : length (side t z).stamps ≡ length (side t' z).stamps
    pn = sym (stamps_unplaced t z) ∙ ap (λ u. length (side u z).stamps) (stamp_alike s z now) ∙ stamps_unplaced t' z

    pf : count_falls s.settings.window (side t z).stamps ≡ count_falls s.settings.window (side t' z).stamps
    pf = sym (falls_unplaced t z s.settings.window) ∙ ap (λ u. count_falls s.settings.window (side u z).stamps) (stamp_alike s z now) ∙ falls_unplaced t' z s.settings.window

    pb : on_delayed (side s z) s.client.sum e.moment ≡ on_delayed (side (unplaced_state s) z) s.client.sum e.moment
    pb = sym (ap (λ x. on_delayed x s.client.sum e.moment) (side_unplaced s z) ∙ on_delayed_unplaced (side s z) s.client.sum e.moment)

    pt : test_sums (side s z) s.client.sum e.moment ≡ test_sums (side (unplaced_state s) z) s.client.sum e.moment
    pt = sym (ap (λ x. test_sums x s.client.sum e.moment) (side_unplaced s z) ∙ test_sums_unplaced (side s z) s.client.sum e.moment)

    pr : (side s (other z)).fixed.reporting_delay ≡ (side (unplaced_state s) (other z)).fixed.reporting_delay
    pr = sym (ap (λ (x : SideState). x.fixed.reporting_delay) (side_unplaced s (other z)))

    queued_unplaced : (u : State) (new : List Aggregate) (v : Event) → unplaced_state (push_event (add_aggregates u new) v) ≡ push_event (add_aggregates (unplaced_state u) new) v
    queued_unplaced u new v = push_unplaced (add_aggregates u new) v ∙ ap (λ x. push_event x v) (add_unplaced u new)

    q :
        unplaced_state (push_event (add_aggregates t (new_of (length (side t z).stamps) (on_delayed (side s z) s.client.sum e.moment))) (sent (length (side t z).stamps) (side s (other z)).fixed.reporting_delay))
        ≡ unplaced_state (push_event (add_aggregates t' (new_of (length (side t' z).stamps) (on_delayed (side (unplaced_state s) z) s.client.sum e.moment))) (sent (length (side t' z).stamps) (side (unplaced_state s) (other z)).fixed.reporting_delay))
    q =
        queued_unplaced t _ _
        ∙ (λ d. push_event (add_aggregates (stamp_alike s z now d) (new_of (pn d) (pb d))) (sent (pn d) (pr d)))
        ∙ sym (queued_unplaced t' _ _)

-- ---- the step

pub step_unplaced : (s : State) (now : ℕ) (e : Event) (k : Kind) → unplaced_stepped (step_for k s now e) ≡ unplaced_stepped (step_for k (unplaced_state s) now e)
unfolding step_for
step_unplaced s now e TunnelSent = tunnel_unplaced s now e
step_unplaced s now e NormalSent = queueing_unplaced s false (packet TunnelSent e.moment e.delay e.side false false false)
step_unplaced s now e PaddingSent = padding_unplaced s now e
step_unplaced s now e TunnelRecv =
    queueing_unplaced s true (packet (if e.padding then PaddingRecv else NormalRecv) e.moment e.delay e.side e.padding false false)
step_unplaced s now e NormalRecv = unmoved_unplaced s false
step_unplaced s now e PaddingRecv = unmoved_unplaced s false
step_unplaced s now e BlockingBegin = unmoved_unplaced s false
step_unplaced s now e BlockingEnd = unmoved_unplaced s false
step_unplaced s now e TimerBegin = unmoved_unplaced s false
step_unplaced s now e TimerEnd = unmoved_unplaced s false
