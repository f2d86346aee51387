-- Laws of a plan that is carried out: what is left is the rules' step of `PaddingSent` and of `TunnelSent`. Assumes nothing.
use Prim.Native.Nat.{ℕ, ◌+◌, ◌-◌}
use mathlib.Core.Path.{◌≡◌, refl, sym, ap, ap₂, subst, ◌∙◌}
use mathlib.Core.Bool.{Bool, true, false}
use mathlib.Core.List.{List}
use mathlib.Core.Option.{Option, none, some}
use native.Mathlib.Omega.{arith}
use lib.ListN.{length}
use Rattle.std.specs.Prelude.{if◌then◌else◌}
use Rattle.rules.specs.Basics.{TunnelSent}
use Rattle.rules.specs.State.{Event, State, side}
use Rattle.rules.specs.Aggregates.{add_aggregates, aggregates_of, some_sum}
use Rattle.rules.specs.ChoiceHeads.{Head as RulesHead, waiting_head}
use Rattle.rules.specs.ChoiceRound.{lift_event}
use Rattle.rules.specs.Queueing.{push_event}
use Rattle.rules.specs.NetworkStep.{Window as RulesWindow, packet, stamp, step_padding, step_tunnel}
use Rattle.laws.specs.Heads.{HeadOf, waiting_first_lem}
use Rattle.event.specs.HandedIn.{side_of}
use Rattle.event.specs.Answers.{falls_of}
use Rattle.event.specs.declared.SimEvent.{SimEvent}
use Rattle.layout.specs.Layout.{state_of}
use Rattle.queue.specs.Changes.{Leaves, count_in}
use Rattle.queue.specs.Heads.{head_from}
use Rattle.queue.specs.Pushes.{Canonical, MayPush}
use Rattle.event.specs.Values.{event_value}
use Rattle.queue.specs.Views.{moment_no}
use Rattle.delay.specs.Tests.{delayed_of}
use Rattle.network.specs.declared.padding.Padding.{Padding}
use Rattle.network.specs.declared.padding.Padding.TheVariants.{Dropped, Own, Replaces}
use Rattle.network.specs.declared.padding.Replaced.{Replaced}
use Rattle.network.specs.declared.tunnel.Tunnel.{Tunnel}
use Rattle.network.specs.Due.{MayAggregate}
use Rattle.network.specs.Stamps.{evicted_count}
use Rattle.network.specs.Plans.{dropped, own, padded_of, padding_of, padding_plan, padding_step, plan_replacing, sent_of, takes, takes_from, tunnel_plan, tunnel_step}
use Rattle.layout.proofs.Shapes.{accepted_shaped}
use Rattle.layout.proofs.Theorems.{holds_accepted}
use Rattle.queue.proofs.Sizes.{free_length}
use Rattle.network.proofs.AggregateLaws.{adds_free}
use Rattle.network.proofs.PaddingLaws.{padding_step_lem}
use Rattle.network.proofs.RoomLaws.{aggregates_long}
use Rattle.network.proofs.TunnelLaws.{tunnel_step_lem}
use Rattle.network.proofs.WaitLaws.{waits_in}
use Rattle.network_stack.specs.Packets.{Carried, MayPad, MayReplace, MaySend, Packet, passed_on}
use Rattle.network_stack.specs.Windows.{Stampable, Stamped}
use Rattle.network_stack.specs.declared.window_count.Window.{Window}
use Rattle.network_stack.proofs.EvictLaws.{stamp_free}
use Rattle.network_stack.proofs.PacketLaws.{recv_canonical}
use Rattle.network_stack.proofs.TakeLaws.{passed_free}

-- ---- replace

module _ (w : List ℕ) (r : Replaced) (d now : ℕ) (may : MayReplace w r d now) where
  module _ (v : List ℕ) (l : Leaves w v (passed_on (state_of w) (head_from r.head))) where
    free_same : count_in v 0 ≡ count_in w 0
    free_same = sym (free_length v) ∙ ap (λ s. length s.free) l.state ∙ ap length (passed_free (state_of w) (head_from r.head)) ∙ free_length w

    pub replace_aggregate : MayAggregate v d (side_of r.head.event.client) now (delayed_of r.tested.by)
    replace_aggregate = record { shaped = l.shaped; free = omega (arith, may.free, free_same) }

-- ---- the packet that waits

-- a packet that the plan takes over is the first that waits
plan_takes : (s : State) (now : ℕ) (e : Event) (h : RulesHead) (by : Option ℕ) (f : List ℕ) → padding_plan s now e ≡ takes h by f
    → waiting_head (side s e.side).block_bypassable (side s e.side) ≡ some h
unfolding padding_plan
plan_takes s now e h by f q = go e.replace (waiting_head (side s e.side).block_bypassable (side s e.side)) q
  where
    one : (g : RulesHead) (a b : Bool) → (if a then own else if b then takes_from (side (lift_event s g) g.event.side) now g else dropped) ≡ takes h by f → some g ≡ some h
    one g true b p = absurd (let z : ◌≡◌ {A = ℕ} 0 1 = cc in omega arith)
    one g false true p = cc
    one g false false p = absurd (let z : ◌≡◌ {A = ℕ} 0 1 = cc in omega arith)

    go : (r : Bool) (o : Option RulesHead) → (if r then plan_replacing s now e o else own) ≡ takes h by f → o ≡ some h
    go false o p = absurd (let z : ◌≡◌ {A = ℕ} 0 1 = cc in omega arith)
    go true none p = absurd (let z : ◌≡◌ {A = ℕ} 0 1 = cc in omega arith)
    go true (some g) p = one g g.event.padding e.bypass p

-- ---- padding::make

module _ (w : List ℕ) (p : Padding) (e : SimEvent) (d now : ℕ) (may : MayPad w p e d now) where
  step_is : step_padding (state_of w) now (padded_of e) ≡ padding_step (state_of w) now (padded_of e) (padding_of p)
  step_is = padding_step_lem (state_of w) now (padded_of e) ∙ ap (padding_step (state_of w) now (padded_of e)) (sym may.plan)

  pub pad_dropped : p ≡ Dropped → Leaves w w (step_padding (state_of w) now (padded_of e)).state
  unfolding padding_of
  pad_dropped q =
      record {
        shaped = accepted_shaped w may.accepted;
        state = sym (ap (λ r. r.state) step_is ∙ ap (λ x. (padding_step (state_of w) now (padded_of e) (padding_of x)).state) q);
        size = refl;
        beside = λ i l o. refl;
      }

  module _ (q : p ≡ Own) (r : SimEvent) (x : Packet r (packet TunnelSent e.moment.0 e.delay.0 (side_of e.client) true e.bypass e.replace)) where
    pub own_may : MayPush w r
    unfolding padding_of
    own_may = record { shaped = accepted_shaped w may.accepted; free = omega (arith, rw q at may.free); canonical = x.canonical }

    pub pad_own : (left : List ℕ) → Leaves w left (push_event (state_of w) (event_value r)) → Leaves w left (step_padding (state_of w) now (padded_of e)).state
    unfolding padding_of
    pad_own left l =
        record {
          shaped = l.shaped;
          state = l.state ∙ ap (push_event (state_of w)) x.is ∙ sym (ap (λ r. r.state) step_is ∙ ap (λ y. (padding_step (state_of w) now (padded_of e) (padding_of y)).state) q);
          size = l.size;
          beside = l.beside;
        }

  module _ (r : Replaced) (q : p ≡ Replaces r) where
    plan_is : takes (head_from r.head) (delayed_of r.tested.by) (some_sum (moment_no r.tested.base)) ≡ padding_plan (state_of w) now (padded_of e)
    unfolding padding_of
    plan_is = sym (ap padding_of q) ∙ may.plan

    waits_is : waiting_head (side (state_of w) (side_of e.client)).block_bypassable (side (state_of w) (side_of e.client)) ≡ some (head_from r.head)
    waits_is = plan_takes (state_of w) now (padded_of e) _ _ _ (sym plan_is)

    pub replace_may : MayReplace w r d now
    unfolding padding_of
    replace_may =
        record {
          head =
              record {
                shaped = accepted_shaped w may.accepted;
                queue = waits_in (side (state_of w) (side_of e.client)).block_bypassable (side (state_of w) (side_of e.client)) r.head waits_is;
                first = subst (HeadOf (state_of w)) waits_is (waiting_first_lem (state_of w) (side_of e.client) (side (state_of w) (side_of e.client)).block_bypassable (holds_accepted w may.accepted).sound);
              };
          free = omega (arith, rw q at may.free, aggregates_long d (side_of r.head.event.client) now (delayed_of r.tested.by));
        }

    pub pad_replaced : (left : List ℕ) → Leaves w left (add_aggregates (passed_on (state_of w) (head_from r.head)) (aggregates_of d (side_of r.head.event.client) now (delayed_of r.tested.by)))
        → Leaves w left (step_padding (state_of w) now (padded_of e)).state
    unfolding padding_of passed_on head_from
    pad_replaced left l =
        record {
          shaped = l.shaped;
          state =
              l.state
              ∙ ap (λ n. add_aggregates (passed_on (state_of w) (head_from r.head)) (aggregates_of n (side_of r.head.event.client) now (delayed_of r.tested.by))) may.delay
              ∙ sym (ap (λ r. r.state) step_is ∙ ap (λ y. (padding_step (state_of w) now (padded_of e) (padding_of y)).state) q);
          size = l.size;
          beside = l.beside;
        }

-- ---- tunnel::make

module _ (w : List ℕ) (t : Tunnel) (e : SimEvent) (d now : ℕ) (may : MaySend w t e d now) where
  stale_is : t.stale ≡ evicted_count (state_of w).settings.window now (side (state_of w) (side_of e.client)).stamps
  unfolding tunnel_plan
  stale_is = ap (λ p. p.stale) may.plan

  pub send_stamp : Stampable w (side_of e.client) now t.stale
  send_stamp =
      record {
        may = record { shaped = accepted_shaped w may.accepted; stale = stale_is; free = omega (arith, may.free) };
        accepted = may.accepted;
      }

  module _ (v : List ℕ) (told : Window) (st : Stamped w v (side_of e.client) now told) where
    l : Leaves w v (stamp (state_of w) (side_of e.client) now)
    l = st.leaves

    free_left : count_in v 0 ≡ count_in w 0 + t.stale - 1
    free_left =
        omega
        (arith, free_length v, ap (λ s. length s.free) l.state, stamp_free (state_of w) (side_of e.client) now, free_length w, stale_is)

    pub send_aggregate : MayAggregate v d (side_of e.client) now (delayed_of t.tested.by)
    send_aggregate = record { shaped = l.shaped; free = omega (arith, may.free, free_left) }

    module _ (u : List ℕ) (m : Leaves v u (add_aggregates (state_of v) (aggregates_of d (side_of e.client) now (delayed_of t.tested.by)))) where
      received_canonical : Canonical t.received
      unfolding tunnel_plan
      received_canonical = recv_canonical t.received _ _ _ _ (ap (λ p. p.received) may.plan)

      pub send_push : MayPush u t.received
      send_push =
          record {
            shaped = m.shaped;
            free =
                omega
                (arith, may.free, free_left, free_length u, ap (λ s. length s.free) m.state, adds_free (state_of v) (aggregates_of d (side_of e.client) now (delayed_of t.tested.by)), free_length v);
            canonical = received_canonical;
          }

      -- what the stamp told is what the step hands on
      handed_on : falls_of told.falls ≡ (step_tunnel (state_of w) now (sent_of e)).falls
      unfolding step_tunnel
      handed_on = ap (λ (x : RulesWindow). x.falls) st.tells

      pub send_done : (left : List ℕ) → Leaves u left (push_event (state_of u) (event_value t.received)) → Carried w left (step_tunnel (state_of w) now (sent_of e)) told.falls
      send_done left n =
          record {
            leaves =
                record {
                  shaped = n.shaped;
                  state =
                      n.state
                      ∙ ap (λ s. push_event s (event_value t.received)) (m.state ∙ ap₂ (λ s x. add_aggregates s (aggregates_of x (side_of e.client) now (delayed_of t.tested.by))) l.state may.delay)
                      ∙ sym (ap (λ r. r.state) (tunnel_step_lem (state_of w) now (sent_of e)) ∙ ap (λ p. (tunnel_step (state_of w) now (sent_of e) p).state) (sym may.plan));
                  size = n.size ∙ m.size ∙ l.size;
                  beside = λ i b o. n.beside i b o ∙ m.beside i b o ∙ l.beside i b o;
                };
            falls = handed_on;
          }
