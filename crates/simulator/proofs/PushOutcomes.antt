-- The promise of a push, from the call's having no number and the event queued. Assumes nothing.
use Prim.Native.Nat.{ℕ, suc, ◌≤◌, ◌<◌}
use mathlib.Core.Path.{◌≡◌, refl, sym, ap, subst, ◌∙◌}
use mathlib.Core.Bool.{Bool, true, false, ◌&&◌, true≢false}
use mathlib.Core.List.{List}
use mathlib.Core.Logic.{◌⊎◌}
use mathlib.Core.Option
use mathlib.Core.Option.{none, map}
use native.Mathlib.Omega.{arith}
use lib.ListN.{get_or, take, drop}
use borrow.Author.Tests.{ltb-false}
use Rattle.std.specs.Prelude.{if◌then◌else◌}
use Rattle.rules.specs.Basics.{has_machine}
use Rattle.rules.specs.Choice.{done}
use Rattle.rules.specs.Arguments.{Call, event_of, push}
use Rattle.rules.specs.Queueing.{push_event}
use Rattle.rules.specs.Effects.{after_push}
use Rattle.rules.specs.Refusals.{no_machine, refusal, table}
use Rattle.rules.specs.Calls.{work}
use Rattle.laws.specs.CallRuns.{AllFalse, none_met}
use Rattle.event.specs.HandedIn.{event_in, has_machine_no, side_of}
use Rattle.event.specs.declared.SimEvent.{SimEvent}
use Rattle.layout.specs.Header.{reserved}
use Rattle.layout.specs.Spare.{Spare}
use Rattle.event.specs.Values.{kind_at, event_value}
use Rattle.layout.specs.Layout.{state_of}
use Rattle.queue.specs.Changes.{Leaves, count_in}
use Rattle.queue.specs.Pushes.{Canonical, MayPush}
use Rattle.event.proofs.Numbers.{kind_some}
use Rattle.layout.proofs.Spares.{spare_chains, spare_head}
use Rattle.simulator.specs.Kept.{kept_event}
use Rattle.simulator.specs.Does.{Does}
use Rattle.simulator.specs.Outcome.{Outcome}
use Rattle.simulator.specs.Numbers.{Numbered, slot_in}
use Rattle.simulator.proofs.Outcomes.{passed_accepted, passed_none}
use Rattle.simulator.proofs.EventNumbers.{full_push}
use Rattle.simulator.proofs.SlotOutcomes.{has_small}
use Rattle.simulator.proofs.Working.{outcome_done, passed_shaped}

-- ---- the event as it is kept

-- the kept event is the rules' own
machine_kind : (n : ℕ) → n < 10 → has_machine_no n ≡ has_machine (kind_at n)
unfolding has_machine_no
machine_kind n l = ap (λ o. Option.get_or (map has_machine o) false) (kind_some n (omega arith))

value_is : (e : SimEvent) → e.kind.0 < 10 → event_value (kept_event e) ≡ event_of (event_in e) (kind_at e.kind.0)
value_is e l = λ d.
    record { kind = kind_at e.kind.0; moment = e.moment.0; delay = e.delay.0; side = side_of e.client; padding = e.padding; bypass = e.bypass; replace = e.replace; machine = if machine_kind e.kind.0 l d then e.machine else 0 }

-- no word without a meaning is a head or a count
spared : (w left : List ℕ) → ((i : ℕ) → i < 256 → (i < 24) ⊎ (48 ≤ i) → get_or left i 0 ≡ get_or w i 0) → (i : ℕ) → Spare i → get_or left i 0 ≡ get_or w i 0
spared w left b i s = b i (spare_head i s).1 (spare_chains i s)

module _ (w : List ℕ) (e : SimEvent) (num : Numbered w (push (event_in e)) none) where
  abbrev pushing : Call
  pushing = push (event_in e)

  push_free : AllFalse (table (state_of w) (push (event_in e)))
  unfolding table refusal
  push_free = none_met (table (state_of w) pushing) (passed_none w pushing num)

  kinds : e.kind.0 ≤ 9
  unfolding table
  kinds = ltb-false 9 e.kind.0 push_free.1.1.0

  machines : has_machine_no e.kind.0 && no_machine (state_of w) (slot_in e.client e.machine) ≡ false
  unfolding table has_machine_no
  machines = push_free.1.0

  room_left : 0 < count_in w 0
  unfolding table
  room_left =
      let q = ltb-false (get_or (take 256 w) 25 0) (suc (reserved (take 256 w))) (sym (full_push (take 256 w) (drop 256 w) (passed_accepted w pushing num).good (event_in e) kinds) ∙ push_free.1.1.1.1.0) in
      omega arith

  canonical : Canonical (kept_event e)
  canonical = go (has_machine_no e.kind.0) refl machines
    where
      go : (b : Bool) → has_machine_no e.kind.0 ≡ b → (b && no_machine (state_of w) (slot_in e.client e.machine)) ≡ false → Canonical (kept_event e)
      go true p q =
          record {
            kind = kinds;
            machine = rw p (has_small w e.client e.machine (passed_accepted w pushing num) q);
            none = λ x. absurd (true≢false (sym p ∙ x));
          }
      go false p q = record { kind = kinds; machine = rw p (omega arith); none = λ x. rw p }

  pub push_may : (k : SimEvent) → k ≡ kept_event e → MayPush w k
  push_may k q = subst (MayPush w) (sym q) (record { shaped = passed_shaped w pushing num; free = room_left; canonical = canonical })

  push_does : (left : List ℕ) → Leaves w left (push_event (state_of w) (event_value (kept_event e))) → Does w (push (event_in e)) done left
  unfolding work
  push_does left k =
      record {
        shaped = k.shaped;
        answer = refl;
        state = k.state ∙ ap (push_event (state_of w)) (value_is e (omega (arith, kinds))) ∙ sym (ap (after_push (state_of w) (event_in e)) (kind_some e.kind.0 (omega (arith, kinds))));
        spare = spared w left k.beside;
        size = k.size;
        ten = λ now x q. absurd (let y : ◌≡◌ {A = ℕ} 0 1 = cc in omega arith);
      }

  pub push_done : (k : SimEvent) → k ≡ kept_event e → (left : List ℕ) → Leaves w left (push_event (state_of w) (event_value k)) → Outcome w (push (event_in e)) done left
  push_done k q left l = outcome_done w pushing num done left (push_does left (subst (λ x. Leaves w left (push_event (state_of w) (event_value x))) q l))
