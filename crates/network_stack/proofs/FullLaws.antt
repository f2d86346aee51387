-- Laws of number 9: what the plan takes against what is free, what it gives back and what is reserved. Assumes nothing.
use Prim.Native.Nat.{ℕ, ◌+◌, ◌≤◌}
use mathlib.Core.Path.{◌≡◌, refl, sym, ap, ◌∙◌, ap₂, subst}
use mathlib.Core.Bool.{Bool, true, false}
use mathlib.Core.List.{List, tail}
use mathlib.Core.Option.{Option}
use native.Mathlib.Omega.{arith}
use lib.Dec.{ltb}
use lib.ListN.{length, drop, take}
use borrow.Author.Tests.{le-ltb, lt-ltb, ltb-true, ltb-false}
use mir.Val.{Fits}
use mir.Syntax.{w64}
use Rattle.rules.specs.Basics.{Side, client, kind_of}
use Rattle.rules.specs.State.{SideState, State, in_record, reserved, side, used, with_side, with_stamps}
use Rattle.rules.specs.Aggregates.{add_aggregates, aggregates_of}
use Rattle.rules.specs.Refusals.{full}
use Rattle.rules.specs.ChoiceHeads.{Head as RulesHead}
use Rattle.rules.specs.ChoiceRound.{lift_event, pop_side}
use Rattle.rules.specs.Queueing.{put_event}
use Rattle.rules.specs.NetworkStep.{free_with_evicted, let_pass, stamp, stamped, step_padding, step_tunnel}
use Rattle.laws.specs.Accepted.{Accepted as HeldAccepted}
use Rattle.laws.proofs.Adds.{after_step_adds}
use Rattle.laws.specs.Counts.{reserved_add, reserved_free, reserved_push, reserved_put, reserved_with, used_push, at_most_two}
use Rattle.laws.specs.Heads.{waiting_first_lem}
use Rattle.event.specs.HandedIn.{event_in, side_of}
use Rattle.event.specs.declared.SimEvent.{SimEvent}
use Rattle.layout.specs.Accepted.{Accepted, room}
use Rattle.layout.specs.Header.{reserved as reserved_in}
use Rattle.layout.specs.Layout.{state_from, state_of}
use Rattle.layout.specs.Records.{count_of}
use Rattle.queue.specs.Changes.{count_in}
use Rattle.event.specs.Values.{event_value}
use Rattle.delay.specs.Tests.{delayed_of}
use Rattle.network.specs.declared.padding.Padding.{Padding}
use Rattle.network.specs.declared.tunnel.Tunnel.{Tunnel}
use Rattle.network.specs.Plans.{PaddingPlan, dropped, own, padded_of, padding_of, padding_plan, padding_records, padding_step, sent_of, takes, tunnel_plan}
use Rattle.layout.proofs.Counts.{reserved_is}
use Rattle.layout.proofs.Theorems.{holds_accepted}
use Rattle.queue.proofs.Sizes.{free_length}
use Rattle.network.proofs.PaddingLaws.{padding_step_lem}
use Rattle.network.proofs.RoomLaws.{aggregates_long, padding_used, tunnel_used}
use Rattle.network.proofs.TunnelLaws.{tunnel_step_lem}
use Rattle.layout.proofs.Shapes.{accepted_shaped}
use Rattle.queue.proofs.Changing.{shaped_count}
use Rattle.network_stack.specs.declared.plan.Plan.{Plan}
use Rattle.network_stack.specs.declared.plan.Plan.TheVariants.{Nothing, Pad, Queue, Send}
use Rattle.network_stack.specs.Steps.{Planned, after_of, no_room, plan_gives_back, plan_records}
use Rattle.network_stack.proofs.PlanLaws.{after_pad, after_send}

-- ---- what a step leaves in reserve: as much as before

stamp_reserved : (s : State) (z : Side) (now : ℕ) → reserved (stamp s z now) ≡ reserved s
unfolding stamp
stamp_reserved s z now =
    let x : SideState = with_stamps (side s z) (stamped s.settings.window now (side s z).stamps s.free) in
    omega
    (arith, reserved_free (with_side s z x) (tail (free_with_evicted s.settings.window now (side s z).stamps s.free)), reserved_with s z x)

tunnel_reserved : (s : State) (now : ℕ) (e : SimEvent) → reserved (step_tunnel s now (sent_of e)).state ≡ reserved s
tunnel_reserved s now e =
    let p = tunnel_plan s now (sent_of e) in
    let new = aggregates_of s.settings.network_delay (side_of e.client) now p.by in
    let t = stamp s (side_of e.client) now in
    ap (λ r. reserved r.state) (tunnel_step_lem s now (sent_of e))
    ∙ reserved_push (add_aggregates t new) p.received ∙ reserved_add t new ∙ stamp_reserved s (side_of e.client) now

lift_reserved : (s : State) (h : RulesHead) → reserved (lift_event s h) ≡ reserved s
unfolding lift_event
lift_reserved s h = omega (arith, reserved_with s h.event.side (pop_side (side s h.event.side) h.chain))

padding_reserved : (s : State) (now : ℕ) (e : SimEvent) → reserved (step_padding s now (padded_of e)).state ≡ reserved s
padding_reserved s now e = ap (λ r. reserved r.state) (padding_step_lem s now (padded_of e)) ∙ go (padding_plan s now (padded_of e))
  where
    go : (p : PaddingPlan) → reserved (padding_step s now (padded_of e) p).state ≡ reserved s
    go own = reserved_push s _
    go dropped = refl
    go (takes h by f) =
        reserved_add (put_event (lift_event s h) (in_record h.place (let_pass h.event))) (aggregates_of s.settings.network_delay h.event.side now by)
        ∙ reserved_put (lift_event s h) (in_record h.place (let_pass h.event)) ∙ lift_reserved s h

-- R stays
room_same : (s : State) (now : ℕ) (e : SimEvent) → (after_of s now e).state.room ≡ s.room
unfolding after_of
room_same s now e = (after_step_adds s now (event_in e) (kind_of e.kind.0)).steady.room

-- ---- full, by counts

-- t is held after s: it takes so many records, and gives so many back
full_by : (t : State) (room us rs free given more : ℕ) → t.room ≡ room → reserved t ≡ rs → used t + given ≡ us + more → us + free ≡ room
    → ltb (free + given) (rs + more) ≡ full t
full_by t room us rs free given more er es eu ew = go (ltb (free + given) (rs + more)) refl
  where
    go : (b : Bool) → ltb (free + given) (rs + more) ≡ b → ltb (free + given) (rs + more) ≡ full t
    go true e = let l = ltb-true (free + given) (rs + more) e in e ∙ sym (lt-ltb t.room (used t + reserved t) (omega arith))
    go false e = let l = ltb-false (free + given) (rs + more) e in e ∙ sym (le-ltb t.room (used t + reserved t) (omega arith))

module _ (w : List ℕ) (a : Accepted w) where
  held : HeldAccepted (state_of w)
  held = holds_accepted w a

  whole : used (state_of w) + count_in w 0 ≡ (state_of w).room
  whole = omega (arith, held.whole, free_length w)

  free_kept : reserved (state_of w) ≤ count_in w 0
  free_kept = omega (arith, held.room, whole)

module _ (w : List ℕ) (a : Accepted w) (now : ℕ) (e : SimEvent) where
  full_nothing : Planned (state_of w) now e Nothing → ltb (count_in w 0 + 0) (reserved (state_of w) + 0) ≡ full (after_of (state_of w) now e).state
  unfolding Planned
  full_nothing p =
      full_by (after_of (state_of w) now e).state (state_of w).room (used (state_of w)) (reserved (state_of w)) (count_in w 0) 0 0 (room_same (state_of w) now e)
      (ap (λ r. reserved r.state) p) (omega (arith, ap (λ r. used r.state) p)) (whole w a)

  pub full_queue : (q : SimEvent) → Planned (state_of w) now e (Queue q) → ltb (count_in w 0 + 0) (reserved (state_of w) + 1) ≡ full (after_of (state_of w) now e).state
  unfolding Planned
  full_queue q p =
      let r : reserved (after_of (state_of w) now e).state ≡ reserved (state_of w) = ap (λ r. reserved r.state) p.step ∙ reserved_push (state_of w) (event_value q) in
      full_by (after_of (state_of w) now e).state (state_of w).room (used (state_of w)) (reserved (state_of w)) (count_in w 0) 0 1 (room_same (state_of w) now e) r
      (omega (arith, ap (λ r. used r.state) p.step, used_push (state_of w) (event_value q))) (whole w a)

  pub full_pad : (q : Padding) → Planned (state_of w) now e (Pad q) → ltb (count_in w 0 + 0) (reserved (state_of w) + padding_records (padding_of q)) ≡ full (after_of (state_of w) now e).state
  unfolding Planned
  full_pad q p =
      full_by (after_of (state_of w) now e).state (state_of w).room (used (state_of w)) (reserved (state_of w)) (count_in w 0) 0 (padding_records (padding_of q)) (room_same (state_of w) now e)
      (ap (λ r. reserved r.state) (after_pad (state_of w) now e p.kind) ∙ padding_reserved (state_of w) now e)
      (omega (arith, ap (λ r. used r.state) (after_pad (state_of w) now e p.kind), padding_used (state_of w) now (padded_of e) (waiting_first_lem (state_of w) (side_of e.client) _ (held w a).sound), ap padding_records p.plan)) (whole w a)

  pub full_send : (t : Tunnel) → Planned (state_of w) now e (Send t) → (d : ℕ) → ltb (count_in w 0 + t.stale) (reserved (state_of w) + (2 + length (aggregates_of d (side_of e.client) now (delayed_of t.tested.by)))) ≡ full (after_of (state_of w) now e).state
  unfolding Planned
  full_send t p d =
      full_by (after_of (state_of w) now e).state (state_of w).room (used (state_of w)) (reserved (state_of w)) (count_in w 0) t.stale (2 + length (aggregates_of d (side_of e.client) now (delayed_of t.tested.by))) (room_same (state_of w) now e)
      (ap (λ r. reserved r.state) (after_send (state_of w) now e p.kind) ∙ tunnel_reserved (state_of w) now e)
      (omega
      (arith, ap (λ r. used r.state) (after_send (state_of w) now e p.kind), tunnel_used (state_of w) now (sent_of e), ap (λ x. x.stale) p.plan, ap (λ x. length (aggregates_of 0 client 0 x.by)) p.plan, aggregates_long (state_of w).settings.network_delay (side_of e.client) now (tunnel_plan (state_of w) now (sent_of e)).by, aggregates_long d (side_of e.client) now (delayed_of t.tested.by))) (whole w a)

-- number 9 by the plan of a step is that of the rules' step
pub planned_full : (w : List ℕ) → Accepted w → (now : ℕ) (e : SimEvent) (p : Plan) → Planned (state_of w) now e p → no_room w p ≡ full (after_of (state_of w) now e).state
unfolding plan_records plan_gives_back
planned_full w a now e Nothing pl = full_nothing w a now e pl
planned_full w a now e (Queue q) pl = full_queue w a now e q pl
planned_full w a now e (Pad q) pl = full_pad w a now e q pl
planned_full w a now e (Send t) pl =
    ap (λ n. ltb (count_in w 0 + t.stale) (reserved (state_of w) + (2 + n))) (sym (aggregates_long 0 (side_of e.client) now (delayed_of t.tested.by)))
    ∙ full_send w a now e t pl 0

-- ---- no_room, as the code goes

padding_few : (p : PaddingPlan) → padding_records p ≤ 2
padding_few own = omega arith
padding_few dropped = omega arith
padding_few (takes h by f) = at_most_two 0 client 0 by

pub pad_fits : (v : Padding) (r n : ℕ) → r ≤ 166 → n ≡ padding_records (padding_of v) → Fits w64 (r + n)
pad_fits v r n l e = record { fits = omega (arith, padding_few (padding_of v)) }

-- n records are free, by the header in view
pub send_fits : (w : List ℕ) (p : Plan) (t : Tunnel) (h : List ℕ) (n : ℕ) → h ≡ take 256 w → n ≡ count_of h 0 → Accepted w → plan_gives_back p ≤ 65535 → p ≡ Send t → Fits w64 (n + t.stale)
unfolding plan_gives_back
send_fits w p t h n eh en a s e =
    let l : t.stale ≤ 65535 = subst (λ x. plan_gives_back x ≤ 65535) e s in
    record { fits = omega (arith, shaped_count w (accepted_shaped w a) 0 (omega arith), en, ap (λ x. count_of x 0) eh) }

pub by_fits : (o : Option ℕ) (r n : ℕ) → r ≤ 166 → ((d : ℕ) (z : Side) (at : ℕ) → n ≡ length (aggregates_of d z at o)) → Fits w64 (r + 2 + n)
by_fits o r n l e = record { fits = omega (arith, e 0 client 0, at_most_two 0 client 0 o) }

module _ (w : List ℕ) (p : Plan) (a : Accepted w) where
  -- records are kept in reserve, and they are free
  pub room_nothing : p ≡ Nothing → false ≡ no_room w p
  unfolding plan_records plan_gives_back
  room_nothing q = sym (ap (no_room w) q ∙ le-ltb (count_in w 0 + 0) (reserved (state_of w) + 0) (omega (arith, free_kept w a)))

  -- r is in reserve and n are free, by the words in view
  module _ (h rs : List ℕ) (eh : h ≡ take 256 w) (ers : rs ≡ drop 256 w) (r n : ℕ) (er : (r ≡ reserved (state_from h rs)) × (r ≤ 166)) (en : n ≡ count_of h 0) where
    kept : r ≡ reserved (state_of w)
    kept = er.0 ∙ ap₂ (λ x y. reserved (state_from x y)) eh ers

    free_is : n ≡ count_in w 0
    free_is = en ∙ ap (λ x. count_of x 0) eh

    pub room_queue : (v : SimEvent) → p ≡ Queue v → ltb n (r + 1) ≡ no_room w p
    unfolding plan_records plan_gives_back
    room_queue v q = ap₂ (λ x y. ltb x (y + 1)) (omega (arith, free_is)) kept ∙ sym (ap (no_room w) q)

    pub room_pad : (v : Padding) (m : ℕ) → p ≡ Pad v → m ≡ padding_records (padding_of v) → ltb n (r + m) ≡ no_room w p
    unfolding plan_records plan_gives_back
    room_pad v m q em = ap₂ ltb (omega (arith, free_is)) (ap₂ ◌+◌ kept em) ∙ sym (ap (no_room w) q)

    pub room_send : (t : Tunnel) (m : ℕ) → p ≡ Send t → ((d : ℕ) (z : Side) (at : ℕ) → m ≡ length (aggregates_of d z at (delayed_of t.tested.by))) → ltb (n + t.stale) (r + 2 + m) ≡ no_room w p
    unfolding plan_records plan_gives_back
    room_send t m q em = ap₂ ltb (ap (λ x. x + t.stale) free_is) (omega (arith, kept, em 0 client 0)) ∙ sym (ap (no_room w) q)

-- ---- reserved

pub reserved_in_lem : (h rs : List ℕ) (r : ℕ) → (r ≡ reserved_in h) × (r ≤ 166) → (r ≡ reserved (state_from h rs)) × (r ≤ 166)
reserved_in_lem h rs r e = (e.0 ∙ sym (reserved_is h rs), e.1)
