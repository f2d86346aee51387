-- A block's end: the block cleared, its aggregates added, and `BlockingEnd` returned or queued. Assumes nothing.
use Prim.Native.Nat.{ℕ, ◌+◌, ◌≤◌, ◌<◌, ◌^◌}
use mathlib.Core.Path.{◌≡◌, refl, sym, ap, subst, ◌∙◌}
use mathlib.Core.Bool.{Bool, true, false}
use mathlib.Core.List.{List, [], ◌∷◌}
use mathlib.Core.Option.{Option as MathOption, none, some}
use Rattle.std.specs.Prelude.{Some, None, Ok, Option}
use native.Mathlib.Omega.{arith}
use lib.Dec.{eqb}
use lib.ListN.{length, take, drop}
use borrow.Author.Tests.{eq-eqb, ne_eqb}
use Rattle.std.specs.Prelude.{if◌then◌else◌}
use Rattle.rules.specs.Basics.{Side, client, server}
use Rattle.rules.specs.State.{Aggregate, Event, SideState, State, one, side, with_block}
use Rattle.rules.specs.Queueing.{push_event}
use Rattle.rules.specs.Aggregates.{aggregates_of, add_aggregate, add_aggregates}
use Rattle.rules.specs.ChoiceDelays.{Block}
use Rattle.rules.specs.ChoiceRound.{RoundOutcome, next, taken, clear_block, end_aggregates, end_block, end_event, end_moment}
use Rattle.laws.specs.Accepted.{Accepted as HeldAccepted}
use Rattle.laws.specs.Counts.{at_most_two}
use Rattle.laws.specs.RecordsRound.{side_reserved_lem}
use Rattle.laws.specs.RecordsTaken.{free_reserved}
use Rattle.event.specs.Answers.{chosen_as}
use Rattle.event.specs.HandedIn.{side_of}
use Rattle.event.specs.declared.SimEvent.{SimEvent}
use Rattle.moment.specs.declared.Length.{Length}
use Rattle.moment.specs.declared.Moment.{Moment}
use Rattle.layout.specs.Layout.{state_from, state_of}
use Rattle.layout.specs.Shape.{Shaped}
use Rattle.delay.specs.Tests.{delayed_of}
use Rattle.queue.specs.Changes.{Leaves}
use Rattle.queue.specs.Heads.{side_held}
use Rattle.queue.specs.declared.view.Words.{Words}
use Rattle.queue.specs.Pushes.{MayPush}
use Rattle.event.specs.Values.{event_value}
use Rattle.network.specs.Due.{MayAggregate}
use Rattle.queue_peek.specs.Decoded.{block_from}
use Rattle.queue_peek.specs.declared.blocks.BlockEnd.{BlockEnd}
use Rattle.event.proofs.Numbers.{event_known}
use Rattle.layout.proofs.Theorems.{holds_accepted}
use Rattle.layout.proofs.Shapes.{accepted_shaped}
use Rattle.queue.proofs.Sizes.{free_length}
use Rattle.network.proofs.AggregateLaws.{adds_free}
use Rattle.round.specs.Changes.{Becomes, unblocked}
use Rattle.round.specs.Cases.{Shows, BlockDue, Passed, end_of}
use Rattle.round.proofs.HeaderWords.{becomes_then}
use Rattle.round.proofs.FreeRecords.{event_may, event_pushed, free_side, leaves_becomes}
use Rattle.round.proofs.ActionLaws.{side_with}

-- ---- the event

-- ---- aggregates added leave both sides

add_one_side : (s : State) (a : Aggregate) (z : Side) → side (add_aggregate s a) z ≡ side s z
unfolding add_aggregate
add_one_side s a client = refl
add_one_side s a server = refl

add_side : (s : State) (l : List Aggregate) (z : Side) → side (add_aggregates s l) z ≡ side s z
unfolding add_aggregates
add_side s [] z = refl
add_side s (a ∷ l) z = add_side (add_aggregate s a) l z ∙ add_one_side s a z

clear_fixed : (s : State) (now : ℕ) (k : Block) → (side (clear_block s now k) k.side).fixed.reporting_delay ≡ (side s k.side).fixed.reporting_delay
unfolding clear_block
clear_fixed s now k =
    ap (λ (x : SideState). x.fixed.reporting_delay)
    (add_side (unblocked s k.side) (end_aggregates s now k) k.side ∙ side_with s k.side (with_block (side s k.side) none (side s k.side).block_bypassable))

clear_free : (s : State) (now : ℕ) (k : Block) → length s.free ≤ length (clear_block s now k).free + 2
unfolding clear_block
clear_free s now k =
    let two : length (end_aggregates s now k) ≤ 2 = at_most_two _ _ _ _ in
    omega (arith, adds_free (unblocked s k.side) (end_aggregates s now k), ap length (free_side s k.side (with_block (side s k.side) none (side s k.side).block_bypassable)))

-- ---- the block is cleared

module _ (w : List ℕ) (now : ℕ) (k : BlockEnd) (by : Option Length) (due : BlockDue w now k by) where
  held : HeldAccepted (state_of w)
  held = holds_accepted w due.accepted

  pub block_shaped : Shaped w
  block_shaped = accepted_shaped w due.accepted

  three_free : 3 ≤ length (state_of w).free
  three_free =
      let o : one (side (state_of w) (side_of k.client)).block_end ≡ 1 = ap one due.set in
      omega (arith, side_reserved_lem (state_of w) (side_of k.client), free_reserved (state_of w) held)

  module _ (end : Moment) (ee : end.0 ≡ end_moment now (block_from k)) (w₁ : List ℕ) (c : Becomes w w₁ (unblocked (state_of w) (side_of k.client)))
      (h rs : List ℕ) (eh : h ≡ take 256 w) (er : rs ≡ drop 256 w) (d : Length) (seen : d.0 ≡ (state_from h rs).settings.network_delay) where
    ed : d.0 ≡ (state_of w).settings.network_delay
    ed = rw (eh, er) at seen

    pub delay_may : MayAggregate w₁ d.0 (side_of k.client) end.0 (delayed_of by)
    delay_may =
        let two : length (aggregates_of d.0 (side_of k.client) end.0 (delayed_of by)) ≤ 2 = at_most_two _ _ _ _ in
        record {
          shaped = c.shaped;
          free = omega (arith, three_free, free_length w₁, ap (λ (s : State). length s.free) c.state, ap length (free_side (state_of w) (side_of k.client) (with_block (side (state_of w) (side_of k.client)) none (side (state_of w) (side_of k.client)).block_bypassable)));
        }

    pub block_done : (w₂ : List ℕ) → Leaves w₁ w₂ (add_aggregates (state_of w₁) (aggregates_of d.0 (side_of k.client) end.0 (delayed_of by))) → Becomes w w₂ (clear_block (state_of w) now (block_from k))
    unfolding clear_block
    block_done w₂ l =
        becomes_then w w₁ w₂ _ _ c
        (subst (Becomes w₁ w₂)
        (λ i.
        add_aggregates (c.state i)
        (aggregates_of (ed i) (side_of k.client) (ee i) (due.reckoned i))) (leaves_becomes w₁ w₂ _ l))

  -- ---- `BlockingEnd`

  module _ (w₁ : List ℕ) (c : Becomes w w₁ (clear_block (state_of w) now (block_from k))) (d : Length) (ed : d.0 ≡ (side (state_of w₁) (side_of k.client)).fixed.reporting_delay) where
    reporting_is : d.0 ≡ (side (state_of w) (side_of k.client)).fixed.reporting_delay
    reporting_is = ed ∙ ap (λ (s : State). (side s (side_of k.client)).fixed.reporting_delay) c.state ∙ clear_fixed (state_of w) now (block_from k)

    by_delay_lem : (b : Bool) → eqb d.0 0 ≡ b
        → end_block (state_of w) now (block_from k) ≡ (if b then taken (end_event (state_of w) now (block_from k)) (clear_block (state_of w) now (block_from k)) else next (push_event (clear_block (state_of w) now (block_from k)) (end_event (state_of w) now (block_from k))))
    by_delay_lem b e =
        ap (λ (t : Bool). if t then taken (end_event (state_of w) now (block_from k)) (clear_block (state_of w) now (block_from k)) else next (push_event (clear_block (state_of w) now (block_from k)) (end_event (state_of w) now (block_from k))))
        (ap (λ (n : ℕ). eqb n 0) (sym reporting_is) ∙ e)

  module _
      (w₁ : List ℕ) (c : Becomes w w₁ (clear_block (state_of w) now (block_from k))) (v : Words) (eh : v.header.now ≡ take 256 w₁) (d : Length)
      (seen : (rs : List ℕ) → d.0 ≡ (side_held v.header.now rs k.client).fixed.reporting_delay) (end : Moment) (ee : end.0 ≡ end_moment now (block_from k)) where
    told : d.0 ≡ (side (state_of w₁) (side_of k.client)).fixed.reporting_delay
    told = let e = rw eh at seen in e (drop 256 w₁)

    pub end_fits : end.0 + d.0 < 2 ^ 64
    end_fits = omega (arith, due.sum, reporting_is w₁ c d told, ee)

    module _ (r : SimEvent) (shows : Shows r (end_of (side_of k.client) end.0 d.0)) where
      shown : Shows r (end_event (state_of w) now (block_from k))
      shown = subst (Shows r) (λ i. end_of (side_of k.client) (ee i) (reporting_is w₁ c d told i)) shows

      pub end_returned : (rounds : ℕ) → d.0 ≡ 0 → Passed w w₁ rounds (end_block (state_of w) now (block_from k)) (Ok (Some (record { event = Some r; rounds = rounds + 1 })))
      end_returned rounds e =
          subst (λ (o : RoundOutcome). Passed w w₁ rounds o (Ok (Some (record { event = Some r; rounds = rounds + 1 })))) (sym (by_delay_lem w₁ c d told true (eq-eqb d.0 0 e)))
          (record { answer = ap (λ (x : MathOption Event). some (chosen_as x (rounds + 1))) (event_known r shown.canonical.kind ∙ ap some shown.is); words = c })

      pub end_may : MayPush w₁ r
      end_may = event_may w w₁ _ _ r c shown (omega (arith, three_free, clear_free (state_of w) now (block_from k)))

      pub end_queued : (rounds : ℕ) → (d.0 ≡ 0 → ⊥) → (w₂ : List ℕ) → Leaves w₁ w₂ (push_event (state_of w₁) (event_value r)) → Passed w w₂ rounds (end_block (state_of w) now (block_from k)) (Ok None)
      end_queued rounds n w₂ l =
          subst (λ (o : RoundOutcome). Passed w w₂ rounds o (Ok None)) (sym (by_delay_lem w₁ c d told false (ne_eqb d.0 0 n)))
          (record { answer = refl; words = event_pushed w w₁ _ _ r c shown w₂ l })
