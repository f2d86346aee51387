-- Laws of a packet that is taken over: the head of blocking or bypassable is given back and pushed again. Assumes nothing.
use Prim.Native.Nat.{ℕ, ◌+◌, ◌*◌, ◌%◌, ◌≤◌, ◌<◌}
use mathlib.Core.Path.{◌≡◌, refl, sym, ap, ap₂, subst, ◌∙◌}
use mathlib.Core.Bool.{true, false}
use mathlib.Core.List.{List, [], ◌∷◌, map, head?}
use mathlib.Core.Logic.{inl, inr}
use mathlib.Core.Option.{Option, none, some}
use native.Mathlib.Omega.{arith}
use lib.ListN.{length, take, drop}
use Rattle.rules.specs.Basics.{Side, TunnelSent, client, server}
use Rattle.rules.specs.State.{Event, Held, State, in_record, queue, side, with_side}
use Rattle.rules.specs.ChoiceHeads.{Head as RulesHead}
use Rattle.rules.specs.ChoiceRound.{lift_event, take_event, pop_side}
use Rattle.rules.specs.Queueing.{push_event, put_event, chain_of, push_side}
use Rattle.rules.specs.NetworkStep.{let_pass, packet}
use Rattle.event.specs.HandedIn.{side_of}
use Rattle.event.specs.declared.SimEvent.{SimEvent}
use Rattle.queue_event.specs.Chain.{Node}
use Rattle.queue_event.specs.Tag.{kind_field, machine_field}
use Rattle.layout.specs.Layout.{event_from, held_event, state_of}
use Rattle.event.specs.Values.{kind_at, event_value}
use Rattle.layout.specs.Records.{EventShape}
use Rattle.layout.specs.Shape.{Shapes}
use Rattle.layout.specs.Changes.{chain_no, side_no}
use Rattle.queue.specs.declared.peek.Head.{Head}
use Rattle.queue.specs.Changes.{Leaves, MayRelease, Released, chains_in, count_in, head_in}
use Rattle.queue.specs.declared.header.Queue.{Queue}
use Rattle.queue.specs.Queues.{queue_no, queue_of}
use Rattle.queue.specs.Heads.{head_from}
use Rattle.queue.specs.Pushes.{MayPush}
use Rattle.layout.proofs.TwoChains.{queue_built}
use Rattle.queue.proofs.Changing.{first_is, first_node, shaped_records}
use Rattle.queue.proofs.HeadsChains.{chain_number}
use Rattle.queue.proofs.Queueing.{released_event}
use Rattle.queue.proofs.Sizes.{free_length, queue_length}
use Rattle.queue.proofs.Stamping.{take_push}
use Rattle.delay.specs.Tests.{Packets}
use Rattle.network_stack.specs.Packets.{MayTakeOver, Packet, passed_on}

-- ---- the first of a list

some_first : {A : Type 0} (l : List A) (v : A) → head? l ≡ some v → 0 < length l
some_first [] v e = absurd (let z : ◌≡◌ {A = ℕ} 0 1 = cc in omega arith)
some_first (x ∷ l) v e = omega arith

place_in : Option (Held Event) → ℕ
place_in none = 0
place_in (some x) = x.place

event_in : Event → Option (Held Event) → Event
event_in v none = v
event_in v (some x) = x.value

-- ---- the numbers of the two queues

waits : (q : Queue) → Packets q → (1 < queue_no q) × (queue_no q < 4)
waits q (inl e) = (omega (arith, ap queue_no e), omega (arith, ap queue_no e))
waits q (inr e) = (omega (arith, ap queue_no e), omega (arith, ap queue_no e))

of_five : (n : ℕ) (z : Side) → n < 4 → (n + 5 * side_no z) % 5 ≡ n
of_five n client l = omega arith
of_five n server l = omega arith

-- ---- the head, as the words have it

module _ (w : List ℕ) (h : Head) (k : ℕ) (may : MayTakeOver w h) (ek : (k ≡ queue_no h.queue + 5 * side_no (side_of h.event.client)) × (k ≤ 10)) where
  number : (chain_no (side_of h.event.client) (queue_of h.queue) ≡ k) × (k % 5 ≡ queue_no h.queue)
  number = (
    chain_number h.queue (side_of h.event.client) ∙ sym ek.0,
    ap (λ i. i % 5) ek.0 ∙ of_five (queue_no h.queue) (side_of h.event.client) (waits h.queue may.queue).1,
  )

  low : 0 < k
  low = omega (arith, (waits h.queue may.queue).0, ek.0)

  small : k < 12
  small = omega (arith, ek.1)

  held : head? (queue (side (state_of w) (side_of h.event.client)).queues (queue_of h.queue)) ≡ some (in_record h.place (event_value h.event))
  unfolding head_from
  held = may.first

  counted : 0 < count_in w k
  counted =
      omega
      (arith, some_first (queue (side (state_of w) (side_of h.event.client)).queues (queue_of h.queue)) _ held, queue_length w (side_of h.event.client) (queue_of h.queue), ap (count_in w) number.0)

  pub take_may : MayRelease w k
  take_may = record { shaped = may.shaped; chain = small; used = low; some = counted }

  node : Node
  node = first_node w may.shaped k small counted

  held_node : some (in_record node.at (event_from (side_of h.event.client) node.rec)) ≡ some (in_record h.place (event_value h.event))
  unfolding node
  held_node =
      ap (λ l. head? (map (held_event (side_of h.event.client)) l)) (sym (first_is w may.shaped k small counted))
      ∙ ap (λ i. head? (map (held_event (side_of h.event.client)) (chains_in w i))) (sym number.0)
      ∙ ap head? (sym (queue_built (take 256 w) (drop 256 w) (side_of h.event.client) (queue_of h.queue)))
      ∙ held

  place_is : h.place ≡ head_in w k
  unfolding node place_in
  place_is = sym (ap place_in held_node)

  event_is : event_value h.event ≡ event_from (side_of h.event.client) node.rec
  unfolding event_in
  event_is = sym (ap (event_in (event_value h.event)) held_node)

  -- it is a `TunnelSent`, without a machine
  shape : EventShape (k % 5) node.rec.tag
  unfolding node Shapes
  shape = (subst (Shapes k) (first_is w may.shaped k small counted) (shaped_records w may.shaped k small)).0.event (omega (arith, (waits h.queue may.queue).0, number.1)) (omega (arith, ek.1))

  kind_zero : kind_field node.rec.tag ≡ 0
  kind_zero = shape.kind.waiting (omega (arith, (waits h.queue may.queue).0, number.1)) (omega (arith, (waits h.queue may.queue).1, number.1))

  machine_zero : machine_field node.rec.tag ≡ 0
  machine_zero = shape.machine (λ e. omega (arith, kind_zero)) (λ e. omega (arith, kind_zero)) (omega (arith, kind_zero))

  kind_is : kind_at h.event.kind.0 ≡ TunnelSent
  unfolding event_from
  kind_is = ap (λ (x : Event). x.kind) event_is ∙ ap kind_at kind_zero

  machine_is : h.event.machine ≡ 0
  unfolding event_from
  machine_is = ap (λ (x : Event). x.machine) event_is ∙ machine_zero

  passes : packet TunnelSent h.event.moment.0 h.event.delay.0 (side_of h.event.client) h.event.padding true false ≡ let_pass (head_from h).event
  unfolding head_from
  passes = λ d.
      record {
        kind = sym kind_is d;
        moment = h.event.moment.0;
        delay = h.event.delay.0;
        side = side_of h.event.client;
        padding = h.event.padding;
        bypass = true;
        replace = false;
        machine = sym machine_is d;
      }

  -- ---- given back, and pushed again

  module _ (v : List ℕ) (r : Released w v k) where
    released : state_of v ≡ take_event (state_of w) (head_from h)
    unfolding head_from
    released = released_event w v k r (side_of h.event.client) (queue_of h.queue) (head_from h) number.0 refl refl place_is

    one_free : 0 < count_in v 0
    unfolding take_event
    one_free = omega (arith, free_length v, ap (λ s. length s.free) released)

    module _ (q : SimEvent) (p : Packet q (packet TunnelSent h.event.moment.0 h.event.delay.0 (side_of h.event.client) h.event.padding true false)) where
      pub again_may : MayPush v q
      again_may = record { shaped = r.shaped; free = one_free; canonical = p.canonical }

      pub take_done : (left : List ℕ) → Leaves v left (push_event (state_of v) (event_value q)) → Leaves w left (passed_on (state_of w) (head_from h))
      unfolding passed_on
      take_done left l =
          record {
            shaped = l.shaped;
            state = l.state ∙ ap₂ push_event released (p.is ∙ passes) ∙ take_push (state_of w) (head_from h) (let_pass (head_from h).event);
            size = l.size ∙ r.size;
            beside = λ i b o. l.beside i b o ∙ r.beside i b o;
          }

-- ---- the free records are as they were

put_free : (s : State) (e : Held Event) → (put_event s e).free ≡ s.free
unfolding put_event
put_free s e = go e.value.side
  where
    go : (z : Side) → (with_side s z (push_side (side s z) (chain_of e.value) e)).free ≡ s.free
    go client = refl
    go server = refl

lift_free : (s : State) (h : RulesHead) → (lift_event s h).free ≡ s.free
unfolding lift_event
lift_free s h = go h.event.side
  where
    go : (z : Side) → (with_side s z (pop_side (side s z) h.chain)).free ≡ s.free
    go client = refl
    go server = refl

pub passed_free : (s : State) (h : RulesHead) → (passed_on s h).free ≡ s.free
unfolding passed_on
passed_free s h = put_free (lift_event s h) (in_record h.place (let_pass h.event)) ∙ lift_free s h
