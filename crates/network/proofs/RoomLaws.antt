-- The records that a step leaves in use, by its plan: what number 9 asks. Assumes nothing.
use Prim.Native.Nat.{ℕ, suc, ◌+◌}
use mathlib.Core.Path.{◌≡◌, refl, ap, ◌∙◌}
use mathlib.Core.Bool.{Bool, true, false}
use mathlib.Core.List.{List, [], ◌∷◌, tail, head?}
use mathlib.Core.Option.{Option, none, some}
use native.Mathlib.Omega.{arith}
use lib.ListN.{length, length-append}
use Rattle.std.specs.Prelude.{if◌then◌else◌}
use Rattle.rules.specs.Basics.{Side, TunnelSent, client, server}
use Rattle.rules.specs.State.{Aggregate, Chain, Event, Held, SideState, State, base, blocking, bypassable, internal, free_place, in_record, queue, queued, side, used, with_side, with_stamps}
use Rattle.rules.specs.Aggregates.{add_aggregates, aggregates_of, on_replace}
use Rattle.rules.specs.ChoiceHeads.{Head, waiting_head}
use Rattle.rules.specs.ChoiceRound.{lift_event, pop_side}
use Rattle.rules.specs.Queueing.{put_event}
use Rattle.rules.specs.NetworkStep.{stamps_kept, free_with_evicted, let_pass, packet, stamp, stamped, step_padding, step_tunnel}
use Rattle.laws.specs.Counts.{used_with, used_put, used_free, used_push, used_add, length_tail}
use Rattle.laws.specs.Heads.{HeadOf}
use Rattle.network.specs.Stamps.{evicted_count}
use Rattle.network.specs.Plans.{own, dropped, takes_from, plan_replacing, padding_plan, padding_records, padding_step, tunnel_plan, PaddingPlan}
use Rattle.network.proofs.StampLaws.{evict_le}
use Rattle.network.proofs.TunnelLaws.{tunnel_step_lem}
use Rattle.network.proofs.PaddingLaws.{padding_step_lem}

-- two or none, whatever the moment and the side
pub aggregates_long : (d : ℕ) (z : Side) (at : ℕ) (o : Option ℕ) → length (aggregates_of d z at o) ≡ length (aggregates_of 0 client 0 o)
unfolding aggregates_of
aggregates_long d z at none = refl
aggregates_long d client at (some n) = refl
aggregates_long d server at (some n) = refl

-- ---- `TunnelSent`

stamp_used : (s : State) (z : Side) (now : ℕ) → used (stamp s z now) + evicted_count s.settings.window now (side s z).stamps ≡ suc (used s)
unfolding stamp
stamp_used s z now =
    let x : SideState = side s z in
    let w : ℕ = s.settings.window in
    let l : List (Held ℕ) = stamped w now x.stamps s.free in
    omega
    (arith, used_free (with_side s z (with_stamps x l)) (tail (free_with_evicted w now x.stamps s.free)), used_with s z (with_stamps x l), length-append (stamps_kept w now x.stamps) (in_record (free_place (free_with_evicted w now x.stamps s.free)) now ∷ []), evict_le w now x.stamps)

plan_stale : (s : State) (now : ℕ) (e : Event) → (tunnel_plan s now e).stale ≡ evicted_count s.settings.window now (side s e.side).stamps
unfolding tunnel_plan
plan_stale s now e = refl

-- a stamp and TunnelRecv are added, with two aggregates or none, and the stale stamps are given back
pub tunnel_used :
    (s : State) (now : ℕ) (e : Event)
    → used (step_tunnel s now e).state + (tunnel_plan s now e).stale ≡ used s + (2 + length (aggregates_of s.settings.network_delay e.side now (tunnel_plan s now e).by))
tunnel_used s now e =
    let new : List Aggregate = aggregates_of s.settings.network_delay e.side now (tunnel_plan s now e).by in
    let t : State = stamp s e.side now in
    omega
    (arith, ap (λ r. used r.state) (tunnel_step_lem s now e), used_push (add_aggregates t new) (tunnel_plan s now e).received, used_add t new, stamp_used s e.side now, plan_stale s now e)

-- ---- `PaddingSent`

queued_pop : (x : SideState) (c : Chain) (v : Held Event) → head? (queue x.queues c) ≡ some v → suc (queued (pop_side x c)) ≡ queued x
queued_pop x base v e = omega (arith, length_tail x.queues.base e)
queued_pop x blocking v e = omega (arith, length_tail x.queues.blocking e)
queued_pop x bypassable v e = omega (arith, length_tail x.queues.bypassable e)
queued_pop x internal v e = omega (arith, length_tail x.queues.internal e)

lift_used : (s : State) (h : Head) → HeadOf s (some h) → suc (used (lift_event s h)) ≡ used s
unfolding lift_event
lift_used s h e =
    omega
    (arith, used_with s h.event.side (pop_side (side s h.event.side) h.chain), queued_pop (side s h.event.side) h.chain _ e)

-- what a plan leaves in use, if a packet taken over is the first of its chain
pub padding_used :
    (s : State) (now : ℕ) (e : Event) → HeadOf s (waiting_head (side s e.side).block_bypassable (side s e.side))
    → used (step_padding s now e).state ≡ used s + padding_records (padding_plan s now e)
unfolding padding_plan
padding_used s now e first =
    ap (λ r. used r.state) (padding_step_lem s now e) ∙ go e.replace (waiting_head (side s e.side).block_bypassable (side s e.side)) first
  where
    pad : Event
    pad = packet TunnelSent e.moment e.delay e.side true e.bypass e.replace

    left : PaddingPlan → ℕ
    left p = used (padding_step s now e p).state

    one : (h : Head) (p b : Bool) → HeadOf s (some h)
        → left (if p then own else if b then takes_from (side (lift_event s h) h.event.side) now h else dropped)
        ≡ used s + padding_records (if p then own else if b then takes_from (side (lift_event s h) h.event.side) now h else dropped)
    one h true b i = omega (arith, used_push s pad)
    one h false true i =
        let by : Option ℕ = on_replace (side (lift_event s h) h.event.side) now h.event.moment in
        let moved : State = put_event (lift_event s h) (in_record h.place (let_pass h.event)) in
        omega
        (arith, lift_used s h i, used_put (lift_event s h) (in_record h.place (let_pass h.event)), used_add moved (aggregates_of s.settings.network_delay h.event.side now by), aggregates_long s.settings.network_delay h.event.side now by)
    one h false false i = omega arith

    go : (r : Bool) (o : Option Head) → HeadOf s o → left (if r then plan_replacing s now e o else own) ≡ used s + padding_records (if r then plan_replacing s now e o else own)
    go false o i = omega (arith, used_push s pad)
    go true none i = omega (arith, used_push s pad)
    go true (some h) i = one h h.event.padding e.bypass i
