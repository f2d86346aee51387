-- Laws of a plan that is carried out where number 9 is not given: the free records are enough. Assumes nothing.
use Prim.Native.Nat.{ℕ, ◌+◌, ◌≤◌}
use mathlib.Core.Path.{◌≡◌, refl, sym, ap, subst, ◌∙◌}
use mathlib.Core.List.{List}
use native.Mathlib.Omega.{arith}
use lib.ListN.{length}
use borrow.Author.Tests.{ltb-false}
use Rattle.rules.specs.State.{reserved}
use Rattle.rules.specs.Aggregates.{aggregates_of}
use Rattle.rules.specs.Queueing.{push_event}
use Rattle.rules.specs.NetworkStep.{Stepped, step_padding, step_tunnel}
use Rattle.laws.specs.CountFalls.{padding_tells_none}
use Rattle.event.specs.HandedIn.{side_of}
use Rattle.event.specs.declared.SimEvent.{SimEvent}
use Rattle.std.specs.Prelude.{Option, None}
use Rattle.moment.specs.declared.Moment.{Moment}
use Rattle.layout.specs.Layout.{state_of}
use Rattle.queue.specs.Changes.{Leaves, count_in}
use Rattle.queue.specs.Pushes.{MayPush}
use Rattle.event.specs.Values.{event_value}
use Rattle.delay.specs.Tests.{delayed_of}
use Rattle.network.specs.declared.padding.Padding.{Padding}
use Rattle.network.specs.declared.tunnel.Tunnel.{Tunnel}
use Rattle.network.specs.Plans.{padded_of, padding_of, padding_records, sent_of}
use Rattle.layout.proofs.Shapes.{accepted_shaped}
use Rattle.network_stack.specs.declared.plan.Plan.{Plan}
use Rattle.network_stack.specs.declared.plan.Plan.TheVariants.{Nothing, Pad, Queue, Send}
use Rattle.network_stack.specs.Packets.{Carried, MayPad, MaySend}
use Rattle.network_stack.specs.Steps.{MayMake, Planned, Queues, Pads, Sends, after_of}
use Rattle.network_stack.proofs.PlanLaws.{after_pad, after_send}
use Rattle.network_stack.proofs.FullLaws.{full_pad, full_queue, full_send}

-- the same step, by an equation
carried_as : (w left : List ℕ) (x y : Stepped) (f : Option Moment) → Carried w left x f → x ≡ y → Carried w left y f
carried_as w left x y f c e = subst (λ z. Carried w left z f) e c

module _ (w : List ℕ) (p : Plan) (e : SimEvent) (d now : ℕ) (may : MayMake w p e d now) where
  pub make_nothing : p ≡ Nothing → Carried w w (after_of (state_of w) now e) None
  unfolding Planned
  make_nothing q =
      let is = subst (Planned (state_of w) now e) q may.plan in
      record {
        leaves =
            record { shaped = accepted_shaped w may.accepted; state = sym (ap (λ r. r.state) is); size = refl; beside = λ i l o. refl };
        falls = sym (ap (λ r. r.falls) is);
      }

  module _ (v : SimEvent) (q : p ≡ Queue v) where
    queues : Queues (state_of w) now e v
    unfolding Planned
    queues = subst (Planned (state_of w) now e) q may.plan

    queue_free : reserved (state_of w) + 1 ≤ count_in w 0 + 0
    queue_free = ltb-false (count_in w 0 + 0) (reserved (state_of w) + 1) (full_queue w may.accepted now e v (subst (Planned (state_of w) now e) q may.plan) ∙ may.room)

    pub queue_may : MayPush w v
    queue_may = record { shaped = accepted_shaped w may.accepted; free = omega (arith, queue_free); canonical = queues.canonical }

    pub make_queue : (left : List ℕ) → Leaves w left (push_event (state_of w) (event_value v)) → Carried w left (after_of (state_of w) now e) None
    make_queue left l = carried_as w left _ _ None (record { leaves = l; falls = refl }) (sym queues.step)

  module _ (v : Padding) (q : p ≡ Pad v) where
    pads : Pads (state_of w) now e v
    unfolding Planned
    pads = subst (Planned (state_of w) now e) q may.plan

    pad_free : reserved (state_of w) + padding_records (padding_of v) ≤ count_in w 0 + 0
    pad_free = ltb-false (count_in w 0 + 0) (reserved (state_of w) + padding_records (padding_of v)) (full_pad w may.accepted now e v (subst (Planned (state_of w) now e) q may.plan) ∙ may.room)

    pub pad_may : MayPad w v e d now
    pad_may = record { accepted = may.accepted; plan = pads.plan; free = omega (arith, pad_free); delay = may.delay }

    pub make_pad : (left : List ℕ) → Leaves w left (step_padding (state_of w) now (padded_of e)).state → Carried w left (after_of (state_of w) now e) None
    make_pad left l =
        carried_as w left _ _ None (record { leaves = l; falls = sym (padding_tells_none (state_of w) now (padded_of e)) }) (sym (after_pad (state_of w) now e pads.kind))

  module _ (t : Tunnel) (q : p ≡ Send t) where
    sends : Sends (state_of w) now e t
    unfolding Planned
    sends = subst (Planned (state_of w) now e) q may.plan

    send_free : reserved (state_of w) + (2 + length (aggregates_of d (side_of e.client) now (delayed_of t.tested.by))) ≤ count_in w 0 + t.stale
    send_free =
        ltb-false (count_in w 0 + t.stale) (reserved (state_of w) + (2 + length (aggregates_of d (side_of e.client) now (delayed_of t.tested.by))))
        (full_send w may.accepted now e t (subst (Planned (state_of w) now e) q may.plan) d ∙ may.room)

    pub send_may : MaySend w t e d now
    send_may = record { accepted = may.accepted; plan = sends.plan; free = omega (arith, send_free); delay = may.delay }

    pub make_send : (left : List ℕ) (f : Option Moment) → Carried w left (step_tunnel (state_of w) now (sent_of e)) f → Carried w left (after_of (state_of w) now e) f
    make_send left f c = carried_as w left _ _ f c (sym (after_send (state_of w) now e sends.kind))
