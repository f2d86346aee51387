-- Laws of a step of `PaddingSent`: its plan as the code makes it, and the rules' step by that plan. Assumes nothing.
use Prim.Native.Nat.{ℕ, ◌≤◌}
use mathlib.Core.Path.{◌≡◌, refl, sym, ap, ap₂, ◌∙◌, subst}
use mathlib.Core.Bool.{Bool, true, false}
use mathlib.Core.List.{List, ◌++◌}
use mathlib.Core.Logic.{◌⊎◌, inl, inr}
use mathlib.Core.Option.{Option as RulesOption, none, some}
use native.Mathlib.Omega.{arith}
use lib.ListN.{length}
use Rattle.std.specs.Prelude.{if◌then◌else◌, Option, Some, None}
use Rattle.rules.specs.Basics.{Side, client, server}
use Rattle.rules.specs.State.{Event, SideState, State, side, with_side}
use Rattle.rules.specs.Aggregates.{aggregates_of, on_replace, test_sums, some_sum}
use Rattle.rules.specs.ChoiceHeads.{Head, waiting_head}
use Rattle.rules.specs.ChoiceRound.{fits, lift_event, pop_side}
use Rattle.rules.specs.NetworkStep.{as_padding, replace_by, replacing, step_padding, unmoved}
use Rattle.event.specs.declared.SimEvent.{SimEvent}
use Rattle.event.specs.HandedIn.{side_of}
use Rattle.layout.specs.Layout.{state_from}
use Rattle.queue.specs.declared.peek.Head.{Head as HeadFound}
use Rattle.queue.specs.declared.header.Queue.{Queue}
use Rattle.queue.specs.Queues.{queue_of}
use Rattle.queue.specs.Views.{moment_no, state_in, side_in, side_at}
use Rattle.queue.specs.declared.view.SideView.{SideView}
use Rattle.queue.specs.declared.view.View.{View}
use Rattle.queue.specs.Heads.{head_from, found_of, side_held, HeadOk, Peeked, PeekedIn}
use Rattle.delay.specs.declared.Margins.{Margins}
use Rattle.delay.specs.declared.Tested.{Tested}
use Rattle.delay.specs.Tests.{delayed_of, usual_margins, without, Packets, replace_over, sums_over, TestedAs}
use Rattle.queue.proofs.HeadsOrder.{stands_at}
use Rattle.delay.proofs.Rules.{replace_usual, sums_usual}
use Rattle.network.specs.declared.padding.Replaced.{Replaced}
use Rattle.network.specs.declared.padding.Padding.{Padding}
use Rattle.network.specs.declared.padding.Padding.TheVariants.{Own, Dropped, Replaces}
use Rattle.network.specs.Due.{moments}
use Rattle.network.specs.Plans.{padded_of, PaddingPlan, own, dropped, takes, padding_of, takes_from, taken_over, plan_replacing, padding_plan, padding_sums, padding_records, padding_step, PaddingAs, TakenAs}
use Rattle.network.proofs.WaitLaws.{waits_in}

-- ---- the rules' step by its plan

pub padding_step_lem : (s : State) (now : ℕ) (e : Event) → step_padding s now e ≡ padding_step s now e (padding_plan s now e)
unfolding step_padding padding_plan replace_by
padding_step_lem s now e = go e.replace (waiting_head (side s e.side).block_bypassable (side s e.side))
  where
    one : (h : Head) (p b : Bool)
        → (if p then as_padding s e else if b then replace_by s now h else unmoved s false)
        ≡ padding_step s now e (if p then own else if b then takes_from (side (lift_event s h) h.event.side) now h else dropped)
    one h true b = refl
    one h false true = refl
    one h false false = refl

    go : (r : Bool) (o : RulesOption Head) → (if r then replacing s now e o else as_padding s e) ≡ padding_step s now e (if r then plan_replacing s now e o else own)
    go false o = refl
    go true none = refl
    go true (some h) = one h h.event.padding e.bypass

pub padding_sums_lem : (s : State) (now : ℕ) (e : Event) → fits (padding_sums s.settings.network_delay now (padding_plan s now e)) ≡ fits (step_padding s now e).sums
padding_sums_lem s now e = go (padding_plan s now e) ∙ ap (λ r. fits r.sums) (sym (padding_step_lem s now e))
  where
    go : (p : PaddingPlan) → fits (padding_sums s.settings.network_delay now p) ≡ fits (padding_step s now e p).sums
    go own = refl
    go dropped = refl
    go (takes h by formed) = refl

-- ---- the packet that waits stands in blocking or bypassable

module _ (h rs : List ℕ) (c t : Bool) (f : Option HeadFound) (y : HeadFound) (ef : f ≡ Some y) (p : Peeked h rs c f (waiting_head t (side_held h rs c))) where
  stands : HeadOk h rs c y
  stands = stands_at h rs c f y ef p.stands

  found_is : waiting_head t (side_held h rs c) ≡ some (head_from y)
  unfolding found_of
  found_is = sym p.is ∙ ap found_of ef

  pub waits : Packets y.queue
  waits = waits_in t (side_held h rs c) y found_is

-- ---- replacement

without_sum : (x : SideState) (q : Queue) → x.sum ≡ (without x q).sum
unfolding without
without_sum x q = refl

pub replaced : (z : SideState) (now sum : ℕ) (y : HeadFound) (m : Margins) (t : Tested) → m ≡ usual_margins → sum ≡ z.sum
    → TestedAs t (replace_over m sum (without z y.queue) now y.event.moment.0) (sums_over m sum (without z y.queue) y.event.moment.0)
    → TakenAs (record { head = y; tested = t }) z now y
unfolding padding_of taken_over head_from
replaced z now sum y m t em es et = record { is = ap₂ (takes (head_from y)) found formed; head = refl }
  where
    x : SideState
    x = without z y.queue

    same : sum ≡ x.sum
    same = es ∙ without_sum z y.queue

    found : delayed_of t.by ≡ on_replace x now y.event.moment.0
    found = et.found ∙ ap₂ (λ a b. replace_over a b x now y.event.moment.0) em same ∙ replace_usual x now y.event.moment.0

    formed : some_sum (moment_no t.base) ≡ test_sums x x.sum y.event.moment.0
    formed = et.formed ∙ ap₂ (λ a b. sums_over a b x y.event.moment.0) em same ∙ sums_usual x x.sum y.event.moment.0

-- ---- plan

lifted_is : (s : State) (y : Head) (q : Queue) → y.chain ≡ queue_of q → side (lift_event s y) y.event.side ≡ without (side s y.event.side) q
unfolding lift_event without
lifted_is s y q e = go y.event.side ∙ ap (pop_side (side s y.event.side)) e
  where
    go : (z : Side) → side (with_side s z (pop_side (side s z) y.chain)) z ≡ pop_side (side s z) y.chain
    go client = refl
    go server = refl

-- where no packet is taken over
own_as : (p : PaddingPlan) → own ≡ p → PaddingAs Own p
unfolding padding_of
own_as p e = record { is = e; number = λ x q. absurd (let z : ◌≡◌ {A = ℕ} 0 1 = cc in omega arith) }

dropped_as : (p : PaddingPlan) → dropped ≡ p → PaddingAs Dropped p
unfolding padding_of
dropped_as p e = record { is = e; number = λ x q. absurd (let z : ◌≡◌ {A = ℕ} 0 1 = cc in omega arith) }

replaced_one : (v x : Replaced) → Replaces v ≡ Replaces x → v ≡ x
replaced_one v x e = cc

-- of any words, also of those that are no accepted state
module _ (h rs : List ℕ) (e : SimEvent) (now : ℕ) where
  pub plan_own : e.replace ≡ false → PaddingAs Own (padding_plan (state_from h rs) now (padded_of e))
  unfolding padding_plan
  plan_own r = own_as _ (sym (ap (λ t. if t then plan_replacing (state_from h rs) now (padded_of e) (waiting_head (side_held h rs e.client).block_bypassable (side_held h rs e.client)) else own) r))

module _ (w : View) (e : SimEvent) (now : ℕ) where
  abbrev held : State
  held = state_in w

  abbrev own_side : SideState
  own_side = side_in w e.client

  -- v is the event's side of this view, and f its first packet that waits
  module _ (r : e.replace ≡ true) (t : Bool) (et : t ≡ own_side.block_bypassable) (v : SideView) (ev : v.view ≡ w) (ec : v.client ≡ e.client)
      (f : Option HeadFound) (q : PeekedIn v.view v.client f (waiting_head t (side_at v))) where
    p : PeekedIn w e.client f (waiting_head t own_side)
    p = rw (ev, ec) at q

    plan_is : plan_replacing held now (padded_of e) (found_of f) ≡ padding_plan held now (padded_of e)
    unfolding padding_plan
    plan_is =
        ap (plan_replacing held now (padded_of e)) (p.is ∙ ap (λ b. waiting_head b own_side) et)
        ∙ sym (ap (λ b. if b then plan_replacing held now (padded_of e) (waiting_head own_side.block_bypassable own_side) else own) r)

    pub plan_none : f ≡ None → PaddingAs Own (padding_plan held now (padded_of e))
    unfolding found_of
    plan_none ef = own_as _ (sym (ap (λ x. plan_replacing held now (padded_of e) (found_of x)) ef) ∙ plan_is)

    module _ (y : HeadFound) (ef : f ≡ Some y) where
      -- by the packet's padding flag and the event's bypass flag
      ways : Bool → Bool → PaddingPlan
      ways a b = if a then own else if b then takes_from (side (lift_event held (head_from y)) (side_of y.event.client)) now (head_from y) else dropped

      ways_is : ways y.event.padding e.bypass ≡ padding_plan held now (padded_of e)
      unfolding ways found_of head_from
      ways_is = sym (ap (λ x. plan_replacing held now (padded_of e) (found_of x)) ef) ∙ plan_is

      pub plan_padding : y.event.padding ≡ true → PaddingAs Own (padding_plan held now (padded_of e))
      unfolding ways
      plan_padding a = own_as _ (sym (ap (λ x. ways x e.bypass) a) ∙ ways_is)

      pub plan_dropped : y.event.padding ≡ false → e.bypass ≡ false → PaddingAs Dropped (padding_plan held now (padded_of e))
      unfolding ways
      plan_dropped a b = dropped_as _ (sym (ap₂ ways a b) ∙ ways_is)

      pub plan_taken : (x : Replaced) → y.event.padding ≡ false → e.bypass ≡ true → TakenAs x (side_at v) now y → PaddingAs (Replaces x) (padding_plan held now (padded_of e))
      unfolding ways taken_over head_from
      plan_taken x a b tv =
          record {
            is = taken.is ∙ ap (λ x. takes_from x now (head_from y)) side_is ∙ sym (ap₂ ways a b) ∙ ways_is;
            number = λ z q. subst (λ (z : HeadFound). z.event.kind.0 ≤ 9) (sym taken.head ∙ ap (λ (z : Replaced). z.head) (replaced_one x z q)) ok.kind;
          }
        where
          taken : TakenAs x own_side now y
          taken = rw (ev, ec) at tv

          ok : HeadOk w.words.header.now w.records.now e.client y
          ok = stands w.words.header.now w.records.now e.client t f y ef p

          side_is : without own_side y.queue ≡ side (lift_event held (head_from y)) (side_of y.event.client)
          side_is = ap (λ c. without (side_in w c) y.queue) (sym ok.side) ∙ sym (lifted_is held (head_from y) y.queue refl)

-- ---- records_for, fit

module _ (p : Padding) where
  pub records_own : p ≡ Own → 1 ≡ padding_records (padding_of p)
  unfolding padding_of
  records_own e = sym (ap (λ x. padding_records (padding_of x)) e)

  pub records_dropped : p ≡ Dropped → 0 ≡ padding_records (padding_of p)
  unfolding padding_of
  records_dropped e = sym (ap (λ x. padding_records (padding_of x)) e)

  pub records_taken_lem : (r : Replaced) (n : ℕ) → p ≡ Replaces r → ((d : ℕ) (z : Side) (at : ℕ) → n ≡ length (aggregates_of d z at (delayed_of r.tested.by))) → n ≡ padding_records (padding_of p)
  unfolding padding_of
  records_taken_lem r n e q = q 0 client 0 ∙ sym (ap (λ x. padding_records (padding_of x)) e)

  module _ (d now : ℕ) where
    pub fit_none : (p ≡ Own) ⊎ (p ≡ Dropped) → true ≡ fits (padding_sums d now (padding_of p))
    unfolding padding_of fits
    fit_none (inl e) = sym (ap (λ x. fits (padding_sums d now (padding_of x))) e)
    fit_none (inr e) = sym (ap (λ x. fits (padding_sums d now (padding_of x))) e)

    pub fit_taken : (r : Replaced) (b : Bool) → p ≡ Replaces r → b ≡ fits (some_sum (moment_no r.tested.base) ++ moments (aggregates_of d (side_of r.head.event.client) now (delayed_of r.tested.by)))
        → b ≡ fits (padding_sums d now (padding_of p))
    unfolding padding_of head_from
    fit_taken r b e q = q ∙ sym (ap (λ x. fits (padding_sums d now (padding_of x))) e)
