-- Laws of the step as the call makes it: refused with number 9 or 10, or carried out. Assumes nothing.
use Prim.Native.Nat.{ℕ, ◌+◌, ◌≤◌, ◌<◌, ◌*◌}
use mathlib.Core.Path.{◌≡◌, refl, sym, ap, ap₂, ◌∙◌}
use mathlib.Core.Bool.{Bool, true, false, false≢true}
use mathlib.Core.List.{List}
use mathlib.Core.Logic.{◌⊎◌}
use mathlib.Core.Option.{Option as MathOption}
use native.Mathlib.Omega.{arith}
use lib.ListN.{set, take, drop, length-set}
use lib.Seq.{get_or-set_other}
use Rattle.std.specs.Prelude.{if◌then◌else◌}
use Rattle.rules.specs.Basics.{kind_of}
use Rattle.rules.specs.State.{State, with_ended}
use Rattle.rules.specs.Choice.{Answer as RulesAnswer, refused, step_made}
use Rattle.rules.specs.Calls.{leaves}
use Rattle.rules.specs.Effects.{after_step}
use Rattle.rules.specs.ChoiceRound.{fits}
use Rattle.rules.specs.NetworkStep.{Stepped as RulesStepped}
use Rattle.rules.specs.Refusals.{full}
use Rattle.event.specs.Answers.{falls_of}
use Rattle.event.specs.HandedIn.{event_in, side_of}
use Rattle.event.specs.declared.SimEvent.{SimEvent}
use Rattle.std.specs.Prelude.{Option, Ok, Err}
use Rattle.event.specs.Answers.{refusal_for, refused_by}
use Rattle.event.specs.declared.answer.Reason.TheVariants.{NoRoom, PastLimit}
use Rattle.event.specs.declared.answer.Refusal.{Refusal}
use Rattle.moment.specs.declared.Moment.{Moment}
use Rattle.layout.specs.Accepted.{Accepted}
use Rattle.layout.specs.Layout.{state_from, state_of}
use Rattle.layout.specs.Spare.{Spare}
use Rattle.layout.specs.Changes.{side_no}
use Rattle.queue.specs.Changes.{Leaves}
use Rattle.network.specs.Plans.{tunnel_plan}
use Rattle.layout.proofs.Shapes.{accepted_shaped}
use Rattle.layout.proofs.Stores.{ended_shaped, ended_stored}
use Rattle.queue.proofs.Changing.{shaped_count}
use Rattle.queue.proofs.Sizes.{stamps_length}
use Rattle.layout.proofs.Spares.{spare_chains, spare_head}
use Rattle.network_stack.specs.declared.plan.Plan.{Plan}
use Rattle.network_stack.specs.declared.plan.Plan.TheVariants.{Nothing, Pad, Queue, Send}
use Rattle.network_stack.specs.Packets.{Carried}
use Rattle.network_stack.specs.Steps.{MayMake, MayStep, Planned, StepDone, after_of, no_room, plan_gives_back, plan_sums}
use Rattle.network_stack.proofs.PlanLaws.{planned_fits}
use Rattle.network_stack.proofs.EvictLaws.{no_small}
use Rattle.network_stack.proofs.FullLaws.{planned_full}

-- ---- a plan gives back no more stamps than there are

few_stamps : (w : List ℕ) (p : Plan) (now : ℕ) (e : SimEvent) → Accepted w → Planned (state_of w) now e p → plan_gives_back p ≤ 65535
unfolding Planned plan_gives_back tunnel_plan
few_stamps w Nothing now e a pl = omega arith
few_stamps w (Queue q) now e a pl = omega arith
few_stamps w (Pad q) now e a pl = omega arith
few_stamps w (Send t) now e a pl =
    omega
    (arith, ap (λ x. x.stale) pl.plan, stamps_length w (side_of e.client), shaped_count w (accepted_shaped w a) (5 + 5 * side_no (side_of e.client)) (no_small (side_of e.client)))

-- ---- the answers are told apart

not_ten : (b : Bool) (f : MathOption ℕ) → step_made b f ≡ refused 10 0 → ⊥
not_ten b f e = let z : ◌≡◌ {A = ℕ} 0 1 = cc in omega arith

nine_ten : ◌≡◌ {A = RulesAnswer} (refused 9 0) (refused 10 0) → ⊥
nine_ten e = let z : ◌≡◌ {A = ℕ} 9 10 = cc in omega arith

-- a word without a meaning is none that a change of chains writes
spare_beside : (i : ℕ) → Spare i → (i < 256) × ((i < 24) ⊎ (48 ≤ i))
spare_beside i s = ((spare_head i s).1, spare_chains i s)

spare_not : (i : ℕ) → Spare i → i ≡ 16 → ⊥
spare_not i s e = omega (arith, (spare_head i s).0)

clash : {A : Type 0} (b : Bool) → b ≡ true → b ≡ false → A
clash b p q = absurd (false≢true (sym q ∙ p))

-- ---- the call

-- h and rs are the words in view, of which the plan p was made
module _ (w : List ℕ) (e : SimEvent) (now : ℕ) (p : Plan) (may : MayStep w e) (h rs : List ℕ) (eh : h ≡ take 256 w) (er : rs ≡ drop 256 w) (seen : Planned (state_from h rs) now e p) where
  pl : Planned (state_of w) now e p
  pl = rw (eh, er) at seen

  pub plan_small : plan_gives_back p ≤ 65535
  plan_small = few_stamps w p now e may.accepted pl

module _
    (w : List ℕ) (e : SimEvent) (now : ℕ) (p : Plan) (may : MayStep w e) (h rs : List ℕ) (eh : h ≡ take 256 w) (er : rs ≡ drop 256 w) (seen : Planned (state_from h rs) now e p)
    (x : Bool) (ex : x ≡ no_room w p) where
  planned : Planned (state_of w) now e p
  planned = pl w e now p may h rs eh er seen

  full_is : x ≡ full (after_of (state_of w) now e).state
  full_is = ex ∙ planned_full w may.accepted now e p planned

  pub step_nine : x ≡ true → (r : Refusal) → r ≡ refusal_for NoRoom → StepDone w now e (Err r) w
  unfolding after_of
  step_nine t r er =
      record {
        nine = λ f. (ap refused_by er, refl);
        answer = λ f. clash _ (sym full_is ∙ t) f;
        state = λ f. clash _ (sym full_is ∙ t) f;
        shaped = accepted_shaped w may.accepted;
        size = refl;
        spare = λ i s. refl;
        ten = λ q. absurd (nine_ten (ap refused_by (sym er) ∙ q));
      }

  module _ (no : x ≡ false) (y : Bool) (d : ℕ) (ed : d ≡ (state_from h rs).settings.network_delay) (ey : y ≡ fits (plan_sums d (side_of e.client) now p)) where
    delay_is : d ≡ (state_of w).settings.network_delay
    delay_is = rw (eh, er) at ed

    fits_is : y ≡ fits (after_of (state_of w) now e).sums
    fits_is = ey ∙ planned_fits (state_of w) now e p d planned delay_is

    pub make_may : MayMake w p e d now
    make_may = record { accepted = may.accepted; plan = planned; room = sym full_is ∙ no; delay = delay_is }

    pub step_ten : y ≡ false → (r : Refusal) → r ≡ refusal_for PastLimit → StepDone w now e (Err r) (set w 16 1)
    unfolding after_of
    step_ten t r er =
        record {
          nine = λ f. clash _ f (sym full_is ∙ no);
          answer = λ f. ap refused_by er ∙ sym (ap (λ b. (if◌then◌else◌ b (leaves after.state (step_made after.answer after.falls)) (leaves (with_ended (state_of w) true) (refused 10 0))).answer) no_fit);
          state = λ f.
              ended_stored w (accepted_shaped w may.accepted) 1
              ∙ sym (ap (λ b. (if◌then◌else◌ b (leaves after.state (step_made after.answer after.falls)) (leaves (with_ended (state_of w) true) (refused 10 0))).state) no_fit);
          shaped = ended_shaped w (accepted_shaped w may.accepted) 1 (omega arith);
          size = length-set w 16 1;
          spare = λ i s. get_or-set_other w 16 i 1 0 (spare_not i s);
          ten = λ q i n. get_or-set_other w 16 i 1 0 n;
        }
      where
        after : RulesStepped
        after = after_step (state_of w) now (event_in e) (kind_of e.kind.0)

        no_fit : fits after.sums ≡ false
        no_fit = sym fits_is ∙ t

    module _ (yes : y ≡ true) where
      pub step_done : (left : List ℕ) (b : Bool) (f : Option Moment) → Carried w left (after_of (state_of w) now e) f
          → ((s : State) (t : ℕ) (v : SimEvent) → v.kind.0 ≡ e.kind.0 → b ≡ (after_of s t v).answer) → StepDone w now e (Ok (record { active = b; falls = f })) left
      unfolding after_of
      step_done left b f c eb =
          record {
            nine = λ f. clash _ f (sym full_is ∙ no);
            answer = λ f.
                ap₂ step_made (eb (state_of w) now e refl) c.falls
                ∙ sym (ap (λ b. (if◌then◌else◌ b (leaves after.state (step_made after.answer after.falls)) (leaves (with_ended (state_of w) true) (refused 10 0))).answer) does_fit);
            state = λ f. l.state ∙ sym (ap (λ b. (if◌then◌else◌ b (leaves after.state (step_made after.answer after.falls)) (leaves (with_ended (state_of w) true) (refused 10 0))).state) does_fit);
            shaped = l.shaped;
            size = l.size;
            spare = λ i s. l.beside i (spare_beside i s).0 (spare_beside i s).1;
            ten = λ q. absurd (not_ten b (falls_of f) q);
          }
        where
          l : Leaves w left (after_of (state_of w) now e).state
          l = c.leaves

          after : RulesStepped
          after = after_step (state_of w) now (event_in e) (kind_of e.kind.0)

          does_fit : fits after.sums ≡ true
          does_fit = sym fits_is ∙ yes
