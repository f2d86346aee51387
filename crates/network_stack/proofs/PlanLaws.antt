-- Laws of the plan of a step, kind by kind: the step, its answer and its sums. Assumes nothing.
use Prim.Native.Nat.{ℕ, zero, suc}
use mathlib.Core.Path.{◌≡◌, refl, sym, ap, ◌∙◌, ap₂}
use mathlib.Core.Bool.{Bool, true, false}
use mathlib.Core.Logic.{◌⊎◌, inl, inr}
use native.Mathlib.Decide.{ℕ_discrete}
use Rattle.rules.specs.Basics.{Side, TunnelSent, kind_of}
use Rattle.rules.specs.State.{State}
use Rattle.rules.specs.Effects.{after_step}
use Rattle.rules.specs.ChoiceRound.{fits}
use Rattle.rules.specs.NetworkStep.{packet, queueing, step_for, step_padding, step_tunnel, unmoved}
use Rattle.event.specs.HandedIn.{event_in, side_of}
use Rattle.event.specs.declared.SimEvent.{SimEvent}
use Rattle.network.specs.declared.padding.Padding.{Padding}
use Rattle.network.specs.declared.tunnel.Tunnel.{Tunnel}
use Rattle.network.specs.Plans.{PaddingPlan, dropped, own, padded_of, padding_of, padding_plan, padding_step, padding_sums, sent_of, takes, tunnel_of, tunnel_plan, tunnel_sums, PaddingAs}
use Rattle.network.proofs.PaddingLaws.{padding_step_lem, padding_sums_lem}
use Rattle.network.proofs.TunnelLaws.{tunnel_sums_lem}
use Rattle.network_stack.specs.declared.plan.Plan.{Plan}
use Rattle.network_stack.specs.declared.plan.Plan.TheVariants.{Nothing, Pad, Queue, Send}
use Rattle.network_stack.specs.Packets.{Packet, receipt_kind}
use Rattle.network_stack.specs.Steps.{Planned, after_of, plan_sums}

-- ---- the rules' step, by the number of the kind

module _ (s : State) (now : ℕ) (e : SimEvent) where
  pub after_send : e.kind.0 ≡ 0 → after_of s now e ≡ step_tunnel s now (sent_of e)
  unfolding after_of step_for
  after_send k = ap (λ n. after_step s now (event_in e) (kind_of n)) k

  after_normal : e.kind.0 ≡ 1 → after_of s now e ≡ queueing s false (packet TunnelSent e.moment.0 e.delay.0 (side_of e.client) false false false)
  unfolding after_of step_for
  after_normal k = ap (λ n. after_step s now (event_in e) (kind_of n)) k

  pub after_pad : e.kind.0 ≡ 2 → after_of s now e ≡ step_padding s now (padded_of e)
  unfolding after_of step_for
  after_pad k = ap (λ n. after_step s now (event_in e) (kind_of n)) k

  after_recv : e.kind.0 ≡ 3 → after_of s now e ≡ queueing s true (receipt_kind e)
  unfolding after_of step_for receipt_kind
  after_recv k = ap (λ n. after_step s now (event_in e) (kind_of n)) k

  after_none : (e.kind.0 ≡ 0 → ⊥) → (e.kind.0 ≡ 1 → ⊥) → (e.kind.0 ≡ 2 → ⊥) → (e.kind.0 ≡ 3 → ⊥) → after_of s now e ≡ unmoved s false
  unfolding after_of step_for
  after_none a b c d = go e.kind.0 a b c d
    where
      go : (n : ℕ) → (n ≡ 0 → ⊥) → (n ≡ 1 → ⊥) → (n ≡ 2 → ⊥) → (n ≡ 3 → ⊥) → after_step s now (event_in e) (kind_of n) ≡ unmoved s false
      go zero a b c d = absurd (a refl)
      go (suc zero) a b c d = absurd (b refl)
      go (suc (suc zero)) a b c d = absurd (c refl)
      go (suc (suc (suc zero))) a b c d = absurd (d refl)
      go (suc (suc (suc (suc zero)))) a b c d = refl
      go (suc (suc (suc (suc (suc zero))))) a b c d = refl
      go (suc (suc (suc (suc (suc (suc zero)))))) a b c d = refl
      go (suc (suc (suc (suc (suc (suc (suc zero))))))) a b c d = refl
      go (suc (suc (suc (suc (suc (suc (suc (suc zero)))))))) a b c d = refl
      go (suc (suc (suc (suc (suc (suc (suc (suc (suc zero))))))))) a b c d = refl
      go (suc (suc (suc (suc (suc (suc (suc (suc (suc (suc n)))))))))) a b c d = refl

  -- ---- the plan

  pub plan_send : (t : Tunnel) → e.kind.0 ≡ 0 → tunnel_of t ≡ tunnel_plan s now (sent_of e) → Planned s now e (Send t)
  unfolding Planned
  plan_send t k p = record { kind = k; plan = p }

  pub plan_pad : (p : Padding) → e.kind.0 ≡ 2 → PaddingAs p (padding_plan s now (padded_of e)) → Planned s now e (Pad p)
  unfolding Planned
  plan_pad p k q = record { kind = k; plan = q.is; number = q.number }

  pub plan_normal : (q : SimEvent) → e.kind.0 ≡ 1 → Packet q (packet TunnelSent e.moment.0 e.delay.0 (side_of e.client) false false false) → Planned s now e (Queue q)
  unfolding Planned
  plan_normal q k p = record { canonical = p.canonical; active = false; step = after_normal k ∙ ap (queueing s false) (sym p.is) }

  pub plan_recv : (q : SimEvent) → e.kind.0 ≡ 3 → Packet q (receipt_kind e) → Planned s now e (Queue q)
  unfolding Planned
  plan_recv q k p = record { canonical = p.canonical; active = true; step = after_recv k ∙ ap (queueing s true) (sym p.is) }

  pub plan_nothing : (e.kind.0 ≡ 0 → ⊥) → (e.kind.0 ≡ 1 → ⊥) → (e.kind.0 ≡ 2 → ⊥) → (e.kind.0 ≡ 3 → ⊥) → Planned s now e Nothing
  unfolding Planned
  plan_nothing a b c d = after_none a b c d

-- ---- active

send_answer : (s : State) (now : ℕ) (e : SimEvent) → (step_tunnel s now (sent_of e)).answer ≡ true
unfolding step_tunnel
send_answer s now e = refl

pad_answer : (s : State) (now : ℕ) (e : SimEvent) → (step_padding s now (padded_of e)).answer ≡ false
pad_answer s now e = ap (λ r. r.answer) (padding_step_lem s now (padded_of e)) ∙ go (padding_plan s now (padded_of e))
  where
    go : (p : PaddingPlan) → (padding_step s now (padded_of e) p).answer ≡ false
    go own = refl
    go dropped = refl
    go (takes h by f) = refl

pub active_yes : (k : ℕ) → (k ≡ 0) ⊎ (k ≡ 3) → (s : State) (t : ℕ) (e : SimEvent) → e.kind.0 ≡ k → true ≡ (after_of s t e).answer
active_yes k (inl q) s t e r = sym (ap (λ x. x.answer) (after_send s t e (r ∙ q)) ∙ send_answer s t e)
active_yes k (inr q) s t e r = sym (ap (λ x. x.answer) (after_recv s t e (r ∙ q)))

pub active_not : (k : ℕ) → ((k ≡ 0) ⊎ (k ≡ 3) → ⊥) → (s : State) (t : ℕ) (e : SimEvent) → e.kind.0 ≡ k → false ≡ (after_of s t e).answer
active_not k a s t e r = go (ℕ_discrete k 1) (ℕ_discrete k 2)
  where
    go : Dec (k ≡ 1) → Dec (k ≡ 2) → false ≡ (after_of s t e).answer
    go (yes q) d = sym (ap (λ x. x.answer) (after_normal s t e (r ∙ q)))
    go (no n) (yes q) = sym (ap (λ x. x.answer) (after_pad s t e (r ∙ q)) ∙ pad_answer s t e)
    go (no n) (no m) = sym (ap (λ x. x.answer) (after_none s t e (λ z. a (inl (sym r ∙ z))) (λ z. n (sym r ∙ z)) (λ z. m (sym r ∙ z)) (λ z. a (inr (sym r ∙ z)))))

-- ---- fit

module _ (p : Plan) (z : Side) (d now : ℕ) where
  pub fit_none : (p ≡ Nothing) ⊎ ((v : SimEvent) × (p ≡ Queue v)) → true ≡ fits (plan_sums d z now p)
  unfolding plan_sums fits
  fit_none (inl q) = sym (ap (λ x. fits (plan_sums d z now x)) q)
  fit_none (inr q) = sym (ap (λ x. fits (plan_sums d z now x)) q.1)

  pub fit_pad : (v : Padding) (b : Bool) → p ≡ Pad v → b ≡ fits (padding_sums d now (padding_of v)) → b ≡ fits (plan_sums d z now p)
  unfolding plan_sums
  fit_pad v b q eb = eb ∙ sym (ap (λ x. fits (plan_sums d z now x)) q)

  pub fit_send : (v : Tunnel) (b : Bool) → p ≡ Send v → b ≡ fits (tunnel_sums d z now (tunnel_of v)) → b ≡ fits (plan_sums d z now p)
  unfolding plan_sums
  fit_send v b q eb = eb ∙ sym (ap (λ x. fits (plan_sums d z now x)) q)

-- the sums of the plan of a step fit where those of the rules' step do
pub planned_fits : (s : State) (now : ℕ) (e : SimEvent) (p : Plan) (d : ℕ) → Planned s now e p → d ≡ s.settings.network_delay
    → fits (plan_sums d (side_of e.client) now p) ≡ fits (after_of s now e).sums
unfolding Planned plan_sums fits
planned_fits s now e Nothing d pl ed = sym (ap (λ r. fits r.sums) pl)
planned_fits s now e (Queue q) d pl ed = sym (ap (λ r. fits r.sums) pl.step)
planned_fits s now e (Pad v) d pl ed =
    ap₂ (λ x y. fits (padding_sums x now y)) ed pl.plan ∙ padding_sums_lem s now (padded_of e) ∙ ap (λ r. fits r.sums) (sym (after_pad s now e pl.kind))
planned_fits s now e (Send v) d pl ed =
    ap₂ (λ x y. fits (tunnel_sums x (side_of e.client) now y)) ed pl.plan ∙ tunnel_sums_lem s now (sent_of e) ∙ ap (λ r. fits r.sums) (sym (after_send s now e pl.kind))
