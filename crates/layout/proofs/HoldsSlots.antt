-- What the header of accepted words holds is what an accepted state holds: settings, block ends, timers and actions within their limits. Assumes nothing.
use Prim.Native.Nat.{ℕ, zero, suc, ◌+◌, ◌*◌, ◌≤◌, ◌<◌, ◌%◌, ◌/◌}
use mathlib.Core.Path.{◌≡◌, refl, sym, ap, subst, ◌∙◌}
use mathlib.Core.Bool.{Bool, true, false}
use mathlib.Core.List.{List}
use mathlib.Core.Logic.{◌⊎◌, inl, inr}
use mathlib.Core.Option.{Option, none, some}
use native.Mathlib.Omega.{arith}
use lib.Dec.{ltb}
use lib.ListN.{get_or}
use borrow.Author.Tests.{ltb-true, ltb-false}
use Rattle.rules.specs.Limits.{moment_limit, rate_limit, duration_limit}
use Rattle.rules.specs.State.{Action}
use Rattle.laws.specs.Accepted.{RateOk}
use Rattle.laws.specs.Sound.{EndOk, DurationOk, ActionOk as ActionFits, SlotsOk as SlotsFit}
use Rattle.queue_event.specs.Tag.{flag}
use Rattle.layout.specs.Header.{ActionOk, SlotsOk, machines_of, timer_of, action_of, action_moment, action_duration}
use Rattle.layout.specs.Layout.{less_one, unless_zero, action_kind_at, action_from, bank, firsts, timers_from, actions_from}
use Rattle.layout.proofs.Banks.{bank_at}
use Rattle.layout.proofs.FixedValues.{one_or_two}
use Rattle.layout.proofs.FixedHeader.{firsts_at, action_bank}

pub rate_fits : (x : ℕ) → x ≤ rate_limit → RateOk (unless_zero x)
rate_fits zero l = tt
rate_fits (suc n) l = (omega arith, l)

pub end_fits : (x : ℕ) → x ≤ suc moment_limit → EndOk (less_one x)
end_fits zero l = tt
end_fits (suc n) l = omega arith

-- ---- slots

firsts_past : {A : Type 0} (n : ℕ) (f : ℕ → A) (m : ℕ) (d : A) → n ≤ m → get_or (firsts n f) m d ≡ d
firsts_past zero f m d l = refl
firsts_past (suc n) f zero d l = absurd (omega arith)
firsts_past (suc n) f (suc m) d l = firsts_past n (λ i. f (suc i)) m d (omega arith)

-- sixteen slots, each fit
slots_fit : {A : Type 0} (P : A → Type 0) (n : ℕ) (f : ℕ → Option A) → ((m : ℕ) (a : A) → m < 16 → f m ≡ some a → P a × (m < n)) → SlotsFit P n (firsts 16 f)
slots_fit {A} P n f each m a e = go (ltb m 16) refl
  where
    go : (b : Bool) → ltb m 16 ≡ b → P a × (m < n)
    go true p = let l = ltb-true m 16 p in each m a l (sym (firsts_at 16 f m none l) ∙ e)
    go false p = absurd (let q : none ≡ some a = sym (firsts_past 16 f m none (ltb-false m 16 p)) ∙ e in let z : ◌≡◌ {A = ℕ} 0 1 = cc in omega arith)

timer_some : (x a : ℕ) → x ≤ suc moment_limit → less_one x ≡ some a → (a ≤ moment_limit) × (x ≡ 0 → ⊥)
timer_some zero a l e = absurd (let z : ◌≡◌ {A = ℕ} 0 1 = cc in omega arith)
timer_some (suc n) a l e = let q : n ≡ a = cc in (omega arith, λ z. omega arith)

duration_fits : (k d : ℕ) → (k ≡ 1) ⊎ (k ≡ 2) → (k ≤ 1 → d ≡ 0) → d ≤ duration_limit → DurationOk (action_kind_at k) d
duration_fits k d (inl e) p l = rw e (p (omega arith))
duration_fits k d (inr e) p l = rw e l

action_some : (x m d : ℕ) (a : Action) → ActionOk x m d → action_from x m d ≡ some a → ActionFits a × (x ≡ 0 → ⊥)
unfolding action_from
action_some zero m d a o e = absurd (let z : ◌≡◌ {A = ℕ} 0 1 = cc in omega arith)
action_some (suc n) m d a o e =
    let q : ◌≡◌ {A = Action} (record { kind = action_kind_at (suc n % 4); moment = m; duration = d; bypass = flag (suc n / 4 % 2); replace = flag (suc n / 8 % 2) }) a = cc in
    (subst ActionFits q (o.moments, duration_fits (suc n % 4) d (one_or_two n m d o.shape) o.shape.padding o.durations), λ z. omega arith)

module _ (h : List ℕ) (ok : SlotsOk h) (n : ℕ) (small : n < 2) where
  there : (m : ℕ) → m < 16 → (machines_of h n ≤ m → ⊥) → m < machines_of h n
  there m l d = go (ltb m (machines_of h n)) refl
    where
      go : (b : Bool) → ltb m (machines_of h n) ≡ b → m < machines_of h n
      go true p = ltb-true m (machines_of h n) p
      go false p = absurd (d (ltb-false m (machines_of h n) p))

  slot_machines : (m : ℕ) → m < 16 → machines_of h n ≤ m → machines_of h ((16 * n + m) / 16) ≤ (16 * n + m) % 16
  slot_machines m l p =
      let e : (16 * n + m) / 16 ≡ n = omega arith in
      let f : (16 * n + m) % 16 ≡ m = omega arith in
      rw (e, f) p

  pub timers_fit : SlotsFit (λ (t : ℕ). t ≤ moment_limit) (machines_of h n) (timers_from n (bank 64 32 h))
  timers_fit = slots_fit (λ t. t ≤ moment_limit) (machines_of h n) (λ m. less_one (bank 64 32 h (16 * n + m))) each
    where
      each : (m a : ℕ) → m < 16 → less_one (bank 64 32 h (16 * n + m)) ≡ some a → (a ≤ moment_limit) × (m < machines_of h n)
      each m a l e =
          let o = ok (16 * n + m) (omega arith) in
          let q = timer_some (timer_of h (16 * n + m)) a o.timer (sym (ap less_one (bank_at 64 32 h (16 * n + m) (omega arith))) ∙ e) in
          (q.0, there m l (λ p. q.1 (o.no_timers (slot_machines m l p))))

  pub actions_fit : SlotsFit ActionFits (machines_of h n) (actions_from n (bank 96 96 h))
  actions_fit = slots_fit ActionFits (machines_of h n) (λ m. action_from (bank 96 96 h (3 * (16 * n + m))) (bank 96 96 h (1 + 3 * (16 * n + m))) (bank 96 96 h (2 + 3 * (16 * n + m)))) each
    where
      each : (m : ℕ) (a : Action) → m < 16 → action_from (bank 96 96 h (3 * (16 * n + m))) (bank 96 96 h (1 + 3 * (16 * n + m))) (bank 96 96 h (2 + 3 * (16 * n + m))) ≡ some a → ActionFits a × (m < machines_of h n)
      each m a l e =
          let o = ok (16 * n + m) (omega arith) in
          let q = action_some (action_of h (16 * n + m)) (action_moment h (16 * n + m)) (action_duration h (16 * n + m)) a o.action (sym (action_bank h (16 * n + m) (omega arith)) ∙ e) in
          (q.0, there m l (λ p. q.1 (o.no_actions (slot_machines m l p))))
