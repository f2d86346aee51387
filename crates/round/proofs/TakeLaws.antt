-- An aggregate and an event taken: the record given back, and the state that is then held. Assumes nothing.
use Prim.Native.Nat.{ℕ, max, ◌+◌, ◌-◌, ◌*◌, ◌≤◌, ◌<◌, ◌^◌}
use mathlib.Core.Path.{◌≡◌, refl, sym, ap, ◌∙◌}
use mathlib.Core.List.{List, [], ◌∷◌, head?, tail}
use mathlib.Core.Option.{some, none-ne-some}
use native.Mathlib.Omega.{arith}
use lib.ListN.{length}
use Rattle.rules.specs.Basics.{Side, client, server}
use Rattle.rules.specs.State.{Aggregate, Held, State, in_record, side, with_side, with_sum, with_aggregates, with_free}
use Rattle.rules.specs.ChoiceRound.{take_aggregate, shifted}
use Rattle.event.specs.HandedIn.{side_of, aggregate_in}
use Rattle.event.specs.Values.{event_value, known_event}
use Rattle.event.specs.declared.AggregateDelay.{AggregateDelay}
use Rattle.event.specs.declared.SimEvent.{SimEvent}
use Rattle.moment.specs.declared.Moment.{Moment}
use Rattle.layout.specs.Layout.{state_of}
use Rattle.layout.specs.Changes.{side_no}
use Rattle.queue.specs.Changes.{MayRelease, Released, head_in}
use Rattle.queue.specs.Queues.{queue_no, queue_of}
use Rattle.queue.specs.Heads.{head_from}
use Rattle.queue.specs.Stamps.{first_place, drop_aggregate}
use Rattle.queue.specs.declared.peek.Head.{Head}
use Rattle.event.proofs.Numbers.{event_known}
use Rattle.queue.proofs.HeadsChains.{chain_number}
use Rattle.queue.proofs.Queueing.{released_aggregate, released_event}
use Rattle.queue.proofs.Sizes.{aggregates_length}
use Rattle.round.specs.Changes.{Becomes, raised_by}
use Rattle.round.specs.Cases.{AggregateDue, EventDue, EventTaken, moved_to}
use Rattle.round.proofs.HeaderWords.{becomes_then}
use Rattle.round.proofs.FreeRecords.{beside_spare}

-- ---- an aggregate

some_first : {A : Type 0} (l : List A) {a : A} → head? l ≡ some a → 0 < length l
some_first [] {a} e = absurd (none-ne-some a e)
some_first (x ∷ l) e = omega arith

place_first : {A : Type 0} (l : List (Held A)) (p : ℕ) {a : A} → head? l ≡ some (in_record p a) → first_place l ≡ p
place_first [] p {a} e = absurd (none-ne-some (in_record p a) e)
place_first (x ∷ l) p e = some_place e
  where
    some_place : {A : Type 0} {x y : Held A} → some x ≡ some y → x.place ≡ y.place
    some_place {A} {x} {y} e = cc

drop_raised : (s : State) (a : Aggregate) (p : ℕ) → first_place s.aggregates ≡ p → drop_aggregate (raised_by s a.side a.length) ≡ take_aggregate s (in_record p a)
unfolding drop_aggregate take_aggregate
drop_raised s a p e = go a.side
  where
    go : (z : Side) → (let t : State = with_side s z (with_sum (side s z) ((side s z).sum + a.length)) in with_free (with_aggregates t (tail t.aggregates)) (first_place t.aggregates ∷ t.free)) ≡ with_free (with_aggregates (with_side s z (with_sum (side s z) ((side s z).sum + a.length))) (tail s.aggregates)) (p ∷ s.free)
    go client = λ d. with_free (with_aggregates (with_side s client (with_sum (side s client) ((side s client).sum + a.length))) (tail s.aggregates)) (e d ∷ s.free)
    go server = λ d. with_free (with_aggregates (with_side s server (with_sum (side s server) ((side s server).sum + a.length))) (tail s.aggregates)) (e d ∷ s.free)

aggregates_side : (s : State) (z : Side) (n : ℕ) → (raised_by s z n).aggregates ≡ s.aggregates
aggregates_side s client n = refl
aggregates_side s server n = refl

module _ (w : List ℕ) (a : AggregateDelay) (due : AggregateDue w a) where
  pub aggregate_fits : (side (state_of w) (side_of a.client)).sum + a.length.0 < 2 ^ 64
  aggregate_fits = omega (arith, due.sum)

  module _ (w₁ : List ℕ) (c : Becomes w w₁ (raised_by (state_of w) (side_of a.client) a.length.0)) where
    same_list : (state_of w₁).aggregates ≡ (state_of w).aggregates
    same_list = ap (λ (s : State). s.aggregates) c.state ∙ aggregates_side (state_of w) (side_of a.client) a.length.0

    pub aggregate_may : MayRelease w₁ 11
    aggregate_may =
        record {
          shaped = c.shaped;
          chain = omega arith;
          used = omega arith;
          some = omega (arith, aggregates_length w₁, ap length same_list, some_first (state_of w).aggregates due.first);
        }

    pub aggregate_taken : (w₂ : List ℕ) → Released w₁ w₂ 11 → Becomes w w₂ (take_aggregate (state_of w) (in_record (head_in w 11) (aggregate_in a)))
    aggregate_taken w₂ r =
        becomes_then w w₁ w₂ _ _ c
        (record {
          shaped = r.shaped;
          state = released_aggregate w₁ w₂ aggregate_may r ∙ ap drop_aggregate c.state ∙ drop_raised (state_of w) (aggregate_in a) (head_in w 11) (place_first (state_of w).aggregates (head_in w 11) due.first);
          size = r.size;
          spare = beside_spare w₁ w₂ r.beside;
        })

-- ---- an event

later_is : (x m now : ℕ) → x ≤ m → max m now ≡ max x (now + (m - now))
later_is x m now l = omega arith

module _ (w : List ℕ) (h : Head) (due : EventDue w h) (k : ℕ) (ek : (k ≡ queue_no h.queue + 5 * side_no (side_of h.event.client)) × (k ≤ 10)) where
  pub event_taken : (w₁ : List ℕ) (now : ℕ) (m : Moment) (r : SimEvent) → Released w w₁ k → m.0 ≡ max h.moment.0 now → r ≡ moved_to h.event m → EventTaken w w₁ now h r
  unfolding head_from
  event_taken w₁ now m r c em er =
      record {
        words =
            record {
              shaped = c.shaped;
              state = released_event w w₁ k c (side_of h.event.client) (queue_of h.queue) (head_from h) (chain_number h.queue (side_of h.event.client) ∙ sym ek.0) refl refl (due.head.first ∙ ap (head_in w) (sym ek.0));
              size = c.size;
              spare = beside_spare w w₁ c.beside;
            };
        event =
            ap known_event er ∙ event_known (moved_to h.event m) due.head.kind
            ∙ ap (λ (t : ℕ). some (event_value (moved_to h.event (record { 0 = t })))) (em ∙ later_is (shifted (side (state_of w) (side_of h.event.client)) (head_from h)) h.moment.0 now due.lifted);
      }
