-- The delays of timers and actions end within the limit, since the slots' moments are within it. Assumes nothing.
use Prim.Native.Nat.{ℕ, zero, suc, ◌+◌, ◌-◌, ◌*◌, ◌<◌, ◌≤◌}
use mathlib.Core.Path.{◌≡◌, refl, sym, ap, subst, ◌∙◌}
use mathlib.Core.Bool.{Bool, true, false}
use mathlib.Core.List.{List}
use mathlib.Core.Option.{Option as RulesOption, none, some, map}
use native.Mathlib.Omega.{arith}
use lib.Dec.{leb}
use lib.ListN.{get_or}
use borrow.Author.Tests.{leb-true}
use Rattle.std.specs.Prelude.{if◌then◌else◌}
use Rattle.rules.specs.Basics.{after, absent, earlier, ◌≤ᵈ◌, Delay}
use Rattle.rules.specs.State.{Action}
use Rattle.rules.specs.Limits.{moment_limit}
use Rattle.rules.specs.ChoiceDelays.{slot_delay, least_delay, action_moments, delays, Delays as RulesDelays}
use Rattle.event.specs.HandedIn.{side_of}
use Rattle.layout.specs.Accepted.{Good}
use Rattle.layout.specs.Header.{SlotsOk}
use Rattle.layout.specs.Changes.{side_no}
use Rattle.layout.specs.Layout.{less_one, action_from, bank, firsts, state_from}
use Rattle.queue.specs.Heads.{side_held}
use Rattle.queue_peek.specs.declared.five.Delays.{Delays}
use Rattle.queue_peek.specs.Decoded.{delay_of, delays_of}
use Rattle.layout.proofs.Banks.{bank_at}
use Rattle.queue.proofs.SlotLaws.{side_few, timer_in, planned_in, moment_in, timers_are, moments_are}
use Rattle.candidate.specs.Promises.{Ahead}

-- a slot's moment is within the limit
Small : RulesOption ℕ → Type 0
Small none = Unit {0}
Small (some u) = u ≤ moment_limit

ahead_slot : (t : ℕ) (o : RulesOption ℕ) → Small o → Ahead t (slot_delay t o)
unfolding Small Ahead
ahead_slot t none l = tt
ahead_slot t (some u) l = go (leb t u) refl
  where
    go : (b : Bool) → leb t u ≡ b → Ahead t (if b then after (u - t) else absent)
    go true e = omega (arith, leb-true t u e)
    go false e = tt

ahead_earlier : (t : ℕ) (a b : Delay) → Ahead t a → Ahead t b → Ahead t (earlier a b)
ahead_earlier t a b p q = go (a ≤ᵈ b)
  where
    go : (x : Bool) → Ahead t (if x then a else b)
    go true = p
    go false = q

ahead_least : (n : ℕ) (f : ℕ → RulesOption ℕ) (t : ℕ) → ((i : ℕ) → i < n → Small (f i)) → Ahead t (least_delay t (firsts n f))
unfolding Ahead
ahead_least zero f t s = tt
ahead_least (suc n) f t s =
    ahead_earlier t (slot_delay t (f 0)) (least_delay t (firsts n (λ i. f (suc i)))) (ahead_slot t (f 0) (s 0 (omega arith)))
    (ahead_least n (λ i. f (suc i)) t (λ i l. s (suc i) (omega arith)))

small_word : (n : ℕ) → n ≤ suc moment_limit → Small (less_one n)
unfolding Small
small_word zero l = tt
small_word (suc n) l = omega arith

small_words : (w m d : ℕ) → m ≤ moment_limit → Small (map (λ (a : Action). a.moment) (action_from w m d))
unfolding Small action_from
small_words zero m d l = tt
small_words (suc w) m d l = l

module _ (h : List ℕ) (g : SlotsOk h) (b : Bool) (i : ℕ) (l : i < 16) where
  timer_small : Small (timer_in h b i)
  unfolding timer_in
  timer_small =
      small_word (bank 64 32 h (16 * side_no (side_of b) + i))
      (rw (bank_at 64 32 h (16 * side_no (side_of b) + i) (omega (arith, side_few b))) (g (16 * side_no (side_of b) + i) (omega (arith, side_few b))).timer)

  pub moment_small : bank 96 96 h (1 + 3 * (16 * side_no (side_of b) + i)) ≤ moment_limit
  moment_small =
      let e : bank 96 96 h (1 + 3 * (16 * side_no (side_of b) + i)) ≡ get_or h (97 + 3 * (16 * side_no (side_of b) + i)) 0
      = bank_at 96 96 h (1 + 3 * (16 * side_no (side_of b) + i)) (omega (arith, side_few b)) ∙ ap (λ k. get_or h k 0) (omega arith) in
      subst (λ k. k ≤ moment_limit) (sym e) (g (16 * side_no (side_of b) + i) (omega (arith, side_few b))).action.moments

  action_small : Small (moment_in h b i)
  unfolding moment_in planned_in
  action_small = small_words _ _ _ moment_small

module _ (h rs : List ℕ) (t : ℕ) (g : Good h rs) where
  timers_ahead : (b : Bool) → Ahead t (least_delay t (side_held h rs b).timers)
  timers_ahead b = rw (timers_are h rs b) (ahead_least 16 (timer_in h b) t (λ i l. timer_small h g.slots b i l))

  actions_ahead : (b : Bool) → Ahead t (least_delay t (action_moments (side_held h rs b)))
  actions_ahead b = rw (moments_are h rs b) (ahead_least 16 (moment_in h b) t (λ i l. action_small h g.slots b i l))

  module _ (d : Delays) (e : delays_of d ≡ delays (state_from h rs) t) where
    pub timer_ahead : Ahead t (delay_of d.i)
    unfolding delays delays_of
    timer_ahead = subst (Ahead t) (sym (ap (λ (x : RulesDelays). x.i) e)) (ahead_earlier t _ _ (timers_ahead true) (timers_ahead false))

    pub action_ahead : Ahead t (delay_of d.s)
    unfolding delays delays_of
    action_ahead = subst (Ahead t) (sym (ap (λ (x : RulesDelays). x.s) e)) (ahead_earlier t _ _ (actions_ahead true) (actions_ahead false))
