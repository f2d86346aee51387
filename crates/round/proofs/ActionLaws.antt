-- A timer and an action taken: the slot cleared, the block begun, and the event queued. Assumes nothing.
use Prim.Native.Nat.{ℕ, ◌+◌, ◌<◌, ◌^◌}
use mathlib.Core.Path.{◌≡◌, refl, sym, ap, subst, ◌∙◌}
use mathlib.Core.Bool.{Bool, true, false, true≢false}
use mathlib.Core.List.{List, []}
use mathlib.Core.Option.{some}
use native.Mathlib.Omega.{arith}
use lib.ListN.{length, take, drop}
use Rattle.std.specs.Prelude.{if◌then◌else◌}
use Rattle.queue.specs.Heads.{side_held}
use Rattle.queue.specs.declared.view.Words.{Words}
use Rattle.queue.proofs.ViewLaws.{action_held, reporting_held}
use Rattle.rules.specs.Basics.{Side, client, server}
use Rattle.rules.specs.State.{Action, BlockOutgoing, SideState, State, side, with_side, with_block}
use Rattle.rules.specs.Queueing.{push_event}
use Rattle.rules.specs.ChoiceRound.{Slot, timer_event, timer_cleared, no_timer, sets_block, acted_side, acted_event}
use Rattle.event.specs.HandedIn.{side_of, has_machine_no}
use Rattle.event.specs.declared.SimEvent.{SimEvent}
use Rattle.moment.specs.declared.Length.{Length}
use Rattle.moment.specs.declared.Moment.{Moment}
use Rattle.layout.specs.Layout.{state_of}
use Rattle.queue.specs.Changes.{Leaves}
use Rattle.queue.specs.Pushes.{MayPush}
use Rattle.event.specs.Values.{event_value}
use Rattle.candidate.specs.Candidates.{due_slot, planned_slot, action_value}
use Rattle.candidate.specs.declared.Due.{Due}
use Rattle.candidate.specs.declared.Planned.{Planned}
use Rattle.round.specs.Changes.{Becomes, HasFree}
use Rattle.round.specs.Cases.{Shows, BeginDue, padding_of, begin_of, begun, start_block}
use Rattle.round.proofs.FreeRecords.{event_may, event_pushed, free_side}

-- ---- the events

pub timer_shows : (d : Due)
    → Shows (record { kind = record { 0 = 9 }; moment = d.moment; delay = record { 0 = 0 }; client = d.slot.client; padding = false; bypass = false; replace = false; machine = d.slot.machine }) (timer_event (due_slot d) d.moment.0)
unfolding has_machine_no
timer_shows d = record { is = refl; canonical = record { kind = omega arith; machine = d.slot.known; none = λ e. absurd (true≢false e) } }

pub padding_shows : (p : Planned) (delay : Length)
    → Shows (record { kind = record { 0 = 2 }; moment = p.action.moment; delay = delay; client = p.slot.client; padding = true; bypass = p.action.bypass; replace = p.action.replace; machine = p.slot.machine }) (padding_of (planned_slot p) (action_value p.action) delay.0)
unfolding has_machine_no
padding_shows p delay = record { is = refl; canonical = record { kind = omega arith; machine = p.slot.known; none = λ e. absurd (true≢false e) } }

pub begin_shows : (p : Planned) (delay : Length) (flag : Bool) (m : Moment) → m.0 ≡ p.action.moment.0 + delay.0
    → Shows (record { kind = record { 0 = 6 }; moment = m; delay = delay; client = p.slot.client; padding = false; bypass = flag; replace = false; machine = p.slot.machine }) (begin_of (planned_slot p) (action_value p.action) delay.0 flag)
unfolding has_machine_no
begin_shows p delay flag m e =
    record {
      is = ap (λ (t : ℕ). event_value (record { kind = record { 0 = 6 }; moment = record { 0 = t }; delay = delay; client = p.slot.client; padding = false; bypass = flag; replace = false; machine = p.slot.machine })) e;
      canonical = record { kind = omega arith; machine = p.slot.known; none = λ e. absurd (true≢false e) };
    }

-- ---- a timer

timer_free : (s : State) (z : Slot) → length (timer_cleared s z).free ≡ length s.free
unfolding timer_cleared
timer_free s z = ap length (free_side s z.side (no_timer (side s z.side) z.machine))

module _ (w : List ℕ) (d : Due) (room : HasFree w 1) (w₁ : List ℕ) (c : Becomes w w₁ (timer_cleared (state_of w) (due_slot d))) (r : SimEvent) (shows : Shows r (timer_event (due_slot d) d.moment.0)) where
  pub timer_may : MayPush w₁ r
  timer_may = event_may w w₁ _ _ r c shows (omega (arith, room.free, timer_free (state_of w) (due_slot d)))

  pub timer_done : (w₂ : List ℕ) → Leaves w₁ w₂ (push_event (state_of w₁) (event_value r)) → Becomes w w₂ (push_event (timer_cleared (state_of w) (due_slot d)) (timer_event (due_slot d) d.moment.0))
  timer_done w₂ l = event_pushed w w₁ _ _ r c shows w₂ l

-- ---- `BlockingBegin` is queued

pub side_with : (s : State) (z : Side) (x : SideState) → side (with_side s z x) z ≡ x
side_with s client x = refl
side_with s server x = refl

acted_fixed : (x : SideState) (a : Action) → (acted_side BlockOutgoing x a).fixed ≡ x.fixed
acted_fixed x a = go (sets_block x a)
  where
    go : (b : Bool) → (if b then with_block x (some (a.moment + a.duration)) a.bypass else x).fixed ≡ x.fixed
    go true = refl
    go false = refl

module _ (w : List ℕ) (p : Planned) (due : BeginDue w p) (w₁ : List ℕ) (c : Becomes w w₁ (begun (state_of w) (side_of p.slot.client) (action_value p.action))) where
  abbrev side_after : SideState
  side_after = acted_side BlockOutgoing (side (state_of w) (side_of p.slot.client)) (action_value p.action)

  side_after_lem : side (state_of w₁) (side_of p.slot.client) ≡ side_after
  side_after_lem = ap (λ (s : State). side s (side_of p.slot.client)) c.state ∙ side_with (state_of w) (side_of p.slot.client) side_after

  action_same : (side (state_of w₁) (side_of p.slot.client)).fixed.action_delay ≡ (side (state_of w) (side_of p.slot.client)).fixed.action_delay
  action_same = ap (λ (x : SideState). x.fixed.action_delay) side_after_lem ∙ ap (λ f. f.action_delay) (acted_fixed (side (state_of w) (side_of p.slot.client)) (action_value p.action))

  reporting_same : (side (state_of w₁) (side_of p.slot.client)).fixed.reporting_delay ≡ (side (state_of w) (side_of p.slot.client)).fixed.reporting_delay
  reporting_same = ap (λ (x : SideState). x.fixed.reporting_delay) side_after_lem ∙ ap (λ f. f.reporting_delay) (acted_fixed (side (state_of w) (side_of p.slot.client)) (action_value p.action))

  -- v holds the words in view
  module _ (v : Words) (eh : v.header.now ≡ take 256 w₁) where
    pub delays_fit : (side_held v.header.now [] p.slot.client).fixed.action_delay + (side_held v.header.now [] p.slot.client).fixed.reporting_delay < 2 ^ 64
    delays_fit =
        let action = action_held (take 256 w₁) [] p.slot.client ∙ sym (action_held (take 256 w₁) (drop 256 w₁) p.slot.client) in
        let reporting = reporting_held (take 256 w₁) [] p.slot.client ∙ sym (reporting_held (take 256 w₁) (drop 256 w₁) p.slot.client) in
        rw (eh, action, reporting) (omega (arith, due.begin, action_same, reporting_same))

  module _
      (v : Words) (eh : v.header.now ≡ take 256 w₁) (d : Length)
      (seen : (rs : List ℕ) → d.0 ≡ (side_held v.header.now rs p.slot.client).fixed.action_delay + (side_held v.header.now rs p.slot.client).fixed.reporting_delay) where
    ed : d.0 ≡ (side (state_of w₁) (side_of p.slot.client)).fixed.action_delay + (side (state_of w₁) (side_of p.slot.client)).fixed.reporting_delay
    ed = let e = rw eh at seen in e (drop 256 w₁)

    pub begin_fits : p.action.moment.0 + d.0 < 2 ^ 64
    begin_fits = omega (arith, due.begin, action_same, reporting_same, ed)

    module _ (b : Bool) (flag : (rs : List ℕ) → b ≡ (side_held v.header.now rs p.slot.client).block_bypassable) (r : SimEvent) (shows : Shows r (begin_of (planned_slot p) (action_value p.action) d.0 b)) where
      flag_is : b ≡ (side (state_of w₁) (side_of p.slot.client)).block_bypassable
      flag_is = let e = rw eh at flag in e (drop 256 w₁)

      event_is : begin_of (planned_slot p) (action_value p.action) d.0 b ≡ acted_event BlockOutgoing side_after (planned_slot p) (action_value p.action)
      event_is = λ i.
          begin_of (planned_slot p) (action_value p.action)
          ((ed ∙ (λ j. (side_after_lem j).fixed.action_delay + (side_after_lem j).fixed.reporting_delay)) i)
          ((flag_is ∙ ap (λ (x : SideState). x.block_bypassable) side_after_lem) i)

      pub begin_may : MayPush w₁ r
      begin_may = event_may w w₁ _ _ r c shows (omega (arith, due.room.free, ap length (free_side (state_of w) (side_of p.slot.client) side_after)))

      pub begin_done : (w₂ : List ℕ) → Leaves w₁ w₂ (push_event (state_of w₁) (event_value r)) → Becomes w w₂ (start_block (state_of w) (planned_slot p) (action_value p.action))
      begin_done w₂ l = subst (λ e. Becomes w w₂ (push_event (begun (state_of w) (side_of p.slot.client) (action_value p.action)) e)) event_is (event_pushed w w₁ _ _ r c shows w₂ l)
