-- An action done: its slot cleared first, then its block begun and its event queued, is the rules' `do_action`. Assumes nothing.
use Prim.Native.Nat.{ℕ, ◌+◌, ◌≤◌}
use mathlib.Core.Path.{◌≡◌, refl, sym, ap, subst, ◌∙◌}
use mathlib.Core.Bool.{Bool, true, false}
use mathlib.Core.List.{List}
use mathlib.Core.Option.{some}
use native.Mathlib.Omega.{arith}
use lib.Dec.{leb}
use lib.ListN.{length, take, drop}
use Rattle.queue.specs.Heads.{side_held}
use Rattle.queue.specs.declared.view.Words.{Words}
use borrow.Author.Tests.{leb-true, ne_eqb}
use Rattle.std.specs.Prelude.{if◌then◌else◌}
use Rattle.rules.specs.Basics.{Side, client, server}
use Rattle.rules.specs.State.{Action, ActionKind, SendPadding, BlockOutgoing, SideState, State, side, with_side, with_block}
use Rattle.rules.specs.Limits.{moment_limit}
use Rattle.rules.specs.Queueing.{push_event}
use Rattle.rules.specs.ChoiceRound.{Slot, action_cleared, no_action, sets_block, acted_side, acted_event, do_action, action_sums, fits}
use Rattle.laws.specs.Branches.{both}
use Rattle.event.specs.HandedIn.{side_of}
use Rattle.moment.specs.declared.Length.{Length}
use Rattle.event.specs.declared.SimEvent.{SimEvent}
use Rattle.layout.specs.Layout.{state_of, action_kind_at}
use Rattle.queue.specs.Changes.{Leaves}
use Rattle.queue.specs.Pushes.{MayPush}
use Rattle.event.specs.Values.{event_value}
use Rattle.candidate.specs.Candidates.{planned_slot, action_value}
use Rattle.candidate.specs.declared.Planned.{Planned}
use Rattle.round.specs.Changes.{Becomes, HasFree}
use Rattle.round.specs.Cases.{Shows, ActionDue, BeginDue, padding_of, start_block}
use Rattle.round.proofs.HeaderWords.{becomes_then}
use Rattle.round.proofs.FreeRecords.{event_may, event_pushed, free_side}
use Rattle.round.proofs.ActionLaws.{side_with}

-- ---- padding queued, from the words as they are

module _
    (w : List ℕ) (p : Planned) (room : HasFree w 1) (v : Words) (eh : v.header.now ≡ take 256 w) (d : Length) (seen : (rs : List ℕ) → d.0 ≡ (side_held v.header.now rs p.slot.client).fixed.action_delay) (r : SimEvent)
    (shows : Shows r (padding_of (planned_slot p) (action_value p.action) d.0)) where
  ed : d.0 ≡ (side (state_of w) (side_of p.slot.client)).fixed.action_delay
  ed = let e = rw eh at seen in e (drop 256 w)

  here : Becomes w w (state_of w)
  here = record { shaped = room.shaped; state = refl; size = refl; spare = λ i s. refl }

  pub padding_may : MayPush w r
  padding_may = event_may w w _ _ r here shows room.free

  pub padding_done : (w₁ : List ℕ) → Leaves w w₁ (push_event (state_of w) (event_value r))
      → Becomes w w₁ (push_event (state_of w) (padding_of (planned_slot p) (action_value p.action) (side (state_of w) (side_of p.slot.client)).fixed.action_delay))
  padding_done w₁ l =
      subst (λ (n : ℕ). Becomes w w₁ (push_event (state_of w) (padding_of (planned_slot p) (action_value p.action) n))) ed (event_pushed w w _ _ r here shows w₁ l)

-- ---- the rules' order of the changes, and the code's

-- an action of kind k done
abbrev do_kind : ActionKind → State → Slot → Action → State
do_kind k s z a =
    let x : SideState = acted_side k (side s z.side) a in
    push_event (with_side s z.side (no_action x z.machine)) (acted_event k x z a)

padding_is : (s : State) (z : Slot) (a : Action) → push_event (action_cleared s z) (padding_of z a (side (action_cleared s z) z.side).fixed.action_delay) ≡ do_kind SendPadding s z a
unfolding action_cleared
padding_is s z a =
    ap (λ (x : SideState). push_event (with_side s z.side (no_action (side s z.side) z.machine)) (padding_of z a x.fixed.action_delay))
    (side_with s z.side (no_action (side s z.side) z.machine))

acted_cleared : (x : SideState) (a : Action) (m : ℕ) → acted_side BlockOutgoing (no_action x m) a ≡ no_action (acted_side BlockOutgoing x a) m
acted_cleared x a m = go (sets_block x a)
  where
    go : (b : Bool) → (if b then with_block (no_action x m) (some (a.moment + a.duration)) a.bypass else no_action x m) ≡ no_action (if b then with_block x (some (a.moment + a.duration)) a.bypass else x) m
    go true = refl
    go false = refl

side_twice : (s : State) (z : Side) (x y : SideState) → with_side (with_side s z x) z y ≡ with_side s z y
side_twice s client x y = refl
side_twice s server x y = refl

block_is : (s : State) (z : Slot) (a : Action) → start_block (action_cleared s z) z a ≡ do_kind BlockOutgoing s z a
unfolding action_cleared
block_is s z a =
    ap (λ (y : SideState). push_event (with_side (with_side s z.side (no_action (side s z.side) z.machine)) z.side y) (acted_event BlockOutgoing y z a))
    (ap (λ (x : SideState). acted_side BlockOutgoing x a) (side_with s z.side (no_action (side s z.side) z.machine)) ∙ acted_cleared (side s z.side) a z.machine)
    ∙ ap (λ (t : State). push_event t (acted_event BlockOutgoing (acted_side BlockOutgoing (side s z.side) a) z a))
    (side_twice s z.side (no_action (side s z.side) z.machine) (no_action (acted_side BlockOutgoing (side s z.side) a) z.machine))

kind_is : (s : State) (z : Slot) (a : Action) (k : ActionKind) → a.kind ≡ k → do_kind k s z a ≡ do_action s z a
unfolding do_action
kind_is s z a k e = ap (λ (k : ActionKind). do_kind k s z a) (sym e)

other_kind : (n : ℕ) → (n ≡ 1 → ⊥) → action_kind_at n ≡ BlockOutgoing
other_kind n d = rw (ne_eqb n 1 d)

-- ---- the slot is cleared

free_cleared : (s : State) (z : Slot) → length (action_cleared s z).free ≡ length s.free
unfolding action_cleared
free_cleared s z = ap length (free_side s z.side (no_action (side s z.side) z.machine))

cleared_action : (s : State) (z : Slot) → (side (action_cleared s z) z.side).fixed.action_delay ≡ (side s z.side).fixed.action_delay
unfolding action_cleared
cleared_action s z = ap (λ (x : SideState). x.fixed.action_delay) (side_with s z.side (no_action (side s z.side) z.machine))

cleared_reporting : (s : State) (z : Slot) → (side (action_cleared s z) z.side).fixed.reporting_delay ≡ (side s z.side).fixed.reporting_delay
unfolding action_cleared
cleared_reporting s z = ap (λ (x : SideState). x.fixed.reporting_delay) (side_with s z.side (no_action (side s z.side) z.machine))

block_sums : (x : SideState) (a : Action) → fits (action_sums BlockOutgoing x a) ≡ true → (a.moment + a.duration ≤ moment_limit) × (a.moment + (x.fixed.action_delay + x.fixed.reporting_delay) ≤ moment_limit)
unfolding fits
block_sums x a e =
    let p = both (leb (a.moment + a.duration) moment_limit) _ e in
    let q = both (leb (a.moment + (x.fixed.action_delay + x.fixed.reporting_delay)) moment_limit) true p.1 in
    (leb-true (a.moment + a.duration) moment_limit p.0, leb-true (a.moment + (x.fixed.action_delay + x.fixed.reporting_delay)) moment_limit q.0)

module _ (w : List ℕ) (p : Planned) (due : ActionDue w p) (w₁ : List ℕ) (c : Becomes w w₁ (action_cleared (state_of w) (planned_slot p))) where
  pub still_free : HasFree w₁ 1
  still_free = record { shaped = c.shaped; free = omega (arith, due.room.free, ap (λ (s : State). length s.free) c.state, free_cleared (state_of w) (planned_slot p)) }

  pub send_done : p.action.kind.0 ≡ 1 → (w₂ : List ℕ)
      → Becomes w₁ w₂ (push_event (state_of w₁) (padding_of (planned_slot p) (action_value p.action) (side (state_of w₁) (side_of p.slot.client)).fixed.action_delay))
      → Becomes w w₂ (do_action (state_of w) (planned_slot p) (action_value p.action))
  send_done e w₂ l =
      becomes_then w w₁ w₂ _ _ c
      (subst (Becomes w₁ w₂)
      (ap (λ (s : State). push_event s (padding_of (planned_slot p) (action_value p.action) (side s (side_of p.slot.client)).fixed.action_delay)) c.state
      ∙ padding_is (state_of w) (planned_slot p) (action_value p.action) ∙ kind_is (state_of w) (planned_slot p) (action_value p.action) SendPadding (ap action_kind_at e)) l)

  module _ (d : p.action.kind.0 ≡ 1 → ⊥) where
    sums : (p.action.moment.0 + p.action.duration.0 ≤ moment_limit) × (p.action.moment.0 + ((side (state_of w) (side_of p.slot.client)).fixed.action_delay + (side (state_of w) (side_of p.slot.client)).fixed.reporting_delay) ≤ moment_limit)
    sums =
        block_sums (side (state_of w) (side_of p.slot.client)) (action_value p.action)
        (subst (λ (k : ActionKind). fits (action_sums k (side (state_of w) (side_of p.slot.client)) (action_value p.action)) ≡ true) (other_kind p.action.kind.0 d) due.sums)

    same_action : (side (state_of w₁) (side_of p.slot.client)).fixed.action_delay ≡ (side (state_of w) (side_of p.slot.client)).fixed.action_delay
    same_action = ap (λ (s : State). (side s (side_of p.slot.client)).fixed.action_delay) c.state ∙ cleared_action (state_of w) (planned_slot p)

    same_reporting : (side (state_of w₁) (side_of p.slot.client)).fixed.reporting_delay ≡ (side (state_of w) (side_of p.slot.client)).fixed.reporting_delay
    same_reporting = ap (λ (s : State). (side s (side_of p.slot.client)).fixed.reporting_delay) c.state ∙ cleared_reporting (state_of w) (planned_slot p)

    pub start_may : BeginDue w₁ p
    start_may = record { room = still_free; end = sums.0; begin = omega (arith, sums.1, same_action, same_reporting) }

    pub start_done : (w₂ : List ℕ) → Becomes w₁ w₂ (start_block (state_of w₁) (planned_slot p) (action_value p.action)) → Becomes w w₂ (do_action (state_of w) (planned_slot p) (action_value p.action))
    start_done w₂ l =
        becomes_then w w₁ w₂ _ _ c
        (subst (Becomes w₁ w₂)
        (ap (λ (s : State). start_block s (planned_slot p) (action_value p.action)) c.state
        ∙ block_is (state_of w) (planned_slot p) (action_value p.action) ∙ kind_is (state_of w) (planned_slot p) (action_value p.action) BlockOutgoing (other_kind p.action.kind.0 d)) l)
