-- The timers and the actions of a side in view: sixteen each, none above its machines, and the words that each is read from. Assumes nothing.
use Prim.Native.Nat.{ℕ, zero, suc, ◌+◌, ◌*◌, ◌<◌, ◌≤◌, ◌/◌, ◌%◌}
use mathlib.Core.Path.{◌≡◌, refl, sym, ap, ◌∙◌}
use mathlib.Core.Bool.{Bool, true, false}
use mathlib.Core.List.{List, [], ◌∷◌, map}
use mathlib.Core.Option
use mathlib.Core.Option.{Option, none, some}
use native.Mathlib.Omega.{arith}
use lib.ListN.{get_or, length}
use Rattle.std.specs.Prelude.{Option as CodeOption, Some, None, MatchOption}
use Rattle.moment.specs.declared.Moment.{Moment}
use Rattle.rules.specs.State.{Action, SideState, side}
use Rattle.rules.specs.ChoiceDelays.{action_moments}
use Rattle.rules.specs.ChoiceRound.{action_in}
use Rattle.event.specs.HandedIn.{side_of}
use Rattle.event.specs.declared.ScheduledAction.{ScheduledAction}
use Rattle.queue_event.specs.Tag.{flag}
use Rattle.layout.specs.Changes.{side_no}
use Rattle.layout.specs.Header.{Limited, SlotsOk, machines_of}
use Rattle.layout.specs.Layout.{less_one, action_from, bank, firsts, state_from}
use Rattle.layout.proofs.Banks.{bank_at}
use Rattle.queue.specs.Heads.{side_held}
use Rattle.queue.specs.declared.header.Slot.{Slot}
use Rattle.queue.specs.Slots.{held_at, machine_slot, slot_from, slot_no, action_value, action_no, KindIn}
use Rattle.queue.specs.Views.{moment_no}
use Rattle.queue.proofs.ViewLaws.{stored_moment}

-- ---- a list of slots

length_firsts : {A : Type 0} (n : ℕ) (f : ℕ → A) → length (firsts n f) ≡ n
length_firsts zero f = refl
length_firsts (suc n) f = ap (λ i. suc i) (length_firsts n (λ i. f (suc i)))

got_firsts : {A : Type 0} (n m : ℕ) (f : ℕ → A) (d : A) → m < n → get_or (firsts n f) m d ≡ f m
got_firsts zero m f d l = absurd (omega arith)
got_firsts (suc n) zero f d l = refl
got_firsts (suc n) (suc m) f d l = got_firsts n m (λ i. f (suc i)) d (omega arith)

held_firsts : (n m : ℕ) (f : ℕ → Option ℕ) → m < n → held_at (firsts n f) m ≡ f m
held_firsts zero m f l = absurd (omega arith)
held_firsts (suc n) zero f l = refl
held_firsts (suc n) (suc m) f l = held_firsts n m (λ i. f (suc i)) (omega arith)

-- none is held from n on where f holds none there
held_none : (n m : ℕ) (f : ℕ → Option ℕ) → (m < n → f m ≡ none) → held_at (firsts n f) m ≡ none
held_none zero m f e = refl
held_none (suc n) zero f e = e (omega arith)
held_none (suc n) (suc m) f e = held_none n m (λ i. f (suc i)) (λ l. e (omega arith))

map_firsts : {A B : Type 0} (g : A → B) (n : ℕ) (f : ℕ → A) → map g (firsts n f) ≡ firsts n (λ i. g (f i))
map_firsts g zero f = refl
map_firsts g (suc n) f = ap (λ l. g (f 0) ∷ l) (map_firsts g n (λ i. f (suc i)))

-- ---- those of a side

pub side_few : (b : Bool) → side_no (side_of b) ≤ 1
side_few true = omega arith
side_few false = omega arith

-- a side has at most sixteen machines
pub machines_few : (h : List ℕ) (b : Bool) (n : ℕ) → Limited h → n ≡ machines_of h (side_no (side_of b)) → n ≤ 16
machines_few h true n l e = omega (arith, l 8 (omega arith), e)
machines_few h false n l e = omega (arith, l 9 (omega arith), e)

-- the timer, the action and the action's moment of machine i, from their words
unfoldable pub timer_in : List ℕ → Bool → ℕ → Option ℕ
timer_in h client i = less_one (bank 64 32 h (16 * side_no (side_of client) + i))

unfoldable pub planned_in : List ℕ → Bool → ℕ → Option Action
planned_in h client i =
    action_from
    (bank 96 96 h (3 * (16 * side_no (side_of client) + i)))
    (bank 96 96 h (1 + 3 * (16 * side_no (side_of client) + i)))
    (bank 96 96 h (2 + 3 * (16 * side_no (side_of client) + i)))

unfoldable pub moment_in : List ℕ → Bool → ℕ → Option ℕ
moment_in h client i = Option.map (λ (a : Action). a.moment) (planned_in h client i)

pub timers_are : (h rs : List ℕ) (b : Bool) → (side_held h rs b).timers ≡ firsts 16 (timer_in h b)
unfolding state_from timer_in
timers_are h rs true = refl
timers_are h rs false = refl

actions_are : (h rs : List ℕ) (b : Bool) → (side_held h rs b).actions ≡ firsts 16 (planned_in h b)
unfolding state_from planned_in
actions_are h rs true = refl
actions_are h rs false = refl

pub moments_are : (h rs : List ℕ) (b : Bool) → action_moments (side_held h rs b) ≡ firsts 16 (moment_in h b)
unfolding moment_in
moments_are h rs b = ap (map (Option.map (λ (a : Action). a.moment))) (actions_are h rs b) ∙ map_firsts (Option.map (λ (a : Action). a.moment)) 16 (planned_in h b)

pub planned_in_lem : (h rs : List ℕ) (b : Bool) (m : ℕ) → m < 16 → action_in (state_from h rs) (machine_slot b m) ≡ planned_in h b m
planned_in_lem h rs b m l = ap (λ x. get_or x m none) (actions_are h rs b) ∙ got_firsts 16 m (planned_in h b) none l

module _ (h rs : List ℕ) (b : Bool) where
  machines_are : (side (state_from h rs) (side_of b)).fixed.machines ≡ machines_of h (side_no (side_of b))
  unfolding state_from bank
  machines_are = go b
    where
      go : (c : Bool) → (side (state_from h rs) (side_of c)).fixed.machines ≡ machines_of h (side_no (side_of c))
      go true = refl
      go false = refl

  -- what a slot at or above the machine count holds
  module _ (ok : SlotsOk h) (i : ℕ) (past : machines_of h (side_no (side_of b)) ≤ i) (last : i < 16) where
    few : side_no (side_of b) ≤ 1
    few = side_few b

    past_slot : machines_of h ((16 * side_no (side_of b) + i) / 16) ≤ (16 * side_no (side_of b) + i) % 16
    past_slot = go (side_no (side_of b)) few past
      where
        go : (k : ℕ) → k ≤ 1 → machines_of h k ≤ i → machines_of h ((16 * k + i) / 16) ≤ (16 * k + i) % 16
        go k l p = let a : (16 * k + i) / 16 ≡ k = omega arith in let c : (16 * k + i) % 16 ≡ i = omega arith in rw (a, c) p

    no_timer : timer_in h b i ≡ none
    unfolding timer_in
    no_timer = ap less_one (bank_at 64 32 h (16 * side_no (side_of b) + i) (omega (arith, few)) ∙ (ok (16 * side_no (side_of b) + i) (omega (arith, few))).no_timers past_slot)

    no_action : moment_in h b i ≡ none
    unfolding moment_in planned_in action_from
    no_action =
        ap (λ w. Option.map (λ (a : Action). a.moment) (action_from w (bank 96 96 h (1 + 3 * (16 * side_no (side_of b) + i))) (bank 96 96 h (2 + 3 * (16 * side_no (side_of b) + i)))))
        (bank_at 96 96 h (3 * (16 * side_no (side_of b) + i)) (omega (arith, few)) ∙ (ok (16 * side_no (side_of b) + i) (omega (arith, few))).no_actions past_slot)

-- ---- the words that a slot is read from

-- the action of three words
abbrev action_read : ℕ → ℕ → ℕ → ScheduledAction
action_read w m d = record { kind = record { 0 = w % 4 }; moment = record { 0 = m }; duration = record { 0 = d }; bypass = flag (w / 4 % 2); replace = flag (w / 8 % 2) }

read_none : (w m d : ℕ) → w ≡ 0 → action_from w m d ≡ none
unfolding action_from
read_none w m d e = ap (λ i. action_from i m d) e

read_some : (w m d : ℕ) → (w ≡ 0 → ⊥) → action_from w m d ≡ some (action_value (action_read w m d))
unfolding action_from
read_some zero m d ne = absurd (ne refl)
read_some (suc n) m d ne = refl

module _ (h : List ℕ) (z : Slot) (j : ℕ) (ej : j ≡ slot_no z) where
  few_words : slot_no z < 32
  few_words = omega (arith, side_few z.client, z.known)

  pub timer_read : (w : ℕ) (r : CodeOption Moment) → w ≡ get_or h (64 + j) 0 → MatchOption r (w ≡ 0) (λ x. x.0 + 1 ≡ w) → (rs : List ℕ) → moment_no r ≡ held_at (side_held h rs z.client).timers z.machine
  unfolding timer_in
  timer_read w r ew e rs =
      stored_moment w r e ∙ ap less_one (ew ∙ ap (λ i. get_or h (64 + i) 0) ej ∙ sym (bank_at 64 32 h (slot_no z) few_words))
      ∙ sym (ap (λ t. held_at t z.machine) (timers_are h rs z.client) ∙ held_firsts 16 z.machine (timer_in h z.client) z.known)

  words_are : (rs : List ℕ) → action_from (get_or h (96 + 3 * j) 0) (get_or h (96 + 3 * j + 1) 0) (get_or h (96 + 3 * j + 2) 0) ≡ action_in (state_from h rs) (slot_from z)
  unfolding planned_in
  words_are rs = (λ d. action_from (first d) (second d) (third d)) ∙ sym (planned_in_lem h rs z.client z.machine z.known)
    where
      first : get_or h (96 + 3 * j) 0 ≡ bank 96 96 h (3 * slot_no z)
      first = ap (λ i. get_or h (96 + 3 * i) 0) ej ∙ sym (bank_at 96 96 h (3 * slot_no z) (omega (arith, few_words)))

      second : get_or h (96 + 3 * j + 1) 0 ≡ bank 96 96 h (1 + 3 * slot_no z)
      second = ap (λ i. get_or h i 0) (omega (arith, ej)) ∙ sym (bank_at 96 96 h (1 + 3 * slot_no z) (omega (arith, few_words)))

      third : get_or h (96 + 3 * j + 2) 0 ≡ bank 96 96 h (2 + 3 * slot_no z)
      third = ap (λ i. get_or h i 0) (omega (arith, ej)) ∙ sym (bank_at 96 96 h (2 + 3 * slot_no z) (omega (arith, few_words)))

  pub action_none : get_or h (96 + 3 * j) 0 ≡ 0 → (rs : List ℕ) → action_no None ≡ action_in (state_from h rs) (slot_from z)
  action_none e rs = sym (read_none (get_or h (96 + 3 * j) 0) (get_or h (96 + 3 * j + 1) 0) (get_or h (96 + 3 * j + 2) 0) e) ∙ words_are rs

  module _ (a : ScheduledAction) (ea : a ≡ action_read (get_or h (96 + 3 * j) 0) (get_or h (96 + 3 * j + 1) 0) (get_or h (96 + 3 * j + 2) 0)) where
    pub action_some : (get_or h (96 + 3 * j) 0 ≡ 0 → ⊥) → (rs : List ℕ) → action_no (Some a) ≡ action_in (state_from h rs) (slot_from z)
    action_some ne rs =
        ap (λ (x : ScheduledAction). some (action_value x)) ea
        ∙ sym (read_some (get_or h (96 + 3 * j) 0) (get_or h (96 + 3 * j + 1) 0) (get_or h (96 + 3 * j + 2) 0) ne) ∙ words_are rs

    pub action_kind : KindIn h z (Some a)
    unfolding KindIn
    action_kind = ap (λ (x : ScheduledAction). x.kind.0) ea ∙ ap (λ (i : ℕ). get_or h (96 + 3 * i) 0 % 4) ej

-- the moment of an action among the moments of its side
moments_at : (l : List (Option Action)) (m : ℕ) → held_at (map (Option.map (λ (a : Action). a.moment)) l) m ≡ Option.map (λ (a : Action). a.moment) (get_or l m none)
moments_at [] m = refl
moments_at (o ∷ l) zero = refl
moments_at (o ∷ l) (suc m) = moments_at l m

module _ (x : SideState) (m : ℕ) (r : CodeOption ScheduledAction) (e : action_no r ≡ get_or x.actions m none) where
  pub moment_none : r ≡ None → moment_no None ≡ held_at (action_moments x) m
  moment_none n = ap (Option.map (λ (a : Action). a.moment)) (ap action_no (sym n) ∙ e) ∙ sym (moments_at x.actions m)

  pub moment_some : (a : ScheduledAction) → r ≡ Some a → moment_no (Some a.moment) ≡ held_at (action_moments x) m
  moment_some a s = ap (Option.map (λ (a : Action). a.moment)) (ap action_no (sym s) ∙ e) ∙ sym (moments_at x.actions m)

-- ---- the laws of both kinds of slots, whatever the records

pub timers_sixteen : (h rs : List ℕ) (client : Bool) → length (side_held h rs client).timers ≡ 16
timers_sixteen h rs b = ap (λ (l : List (Option ℕ)). length l) (timers_are h rs b) ∙ length_firsts 16 (timer_in h b)

pub actions_sixteen : (h rs : List ℕ) (client : Bool) → length (action_moments (side_held h rs client)) ≡ 16
actions_sixteen h rs b = ap (λ (l : List (Option ℕ)). length l) (moments_are h rs b) ∙ length_firsts 16 (moment_in h b)

pub timers_beyond : (h rs : List ℕ) (client : Bool) (m : ℕ) → SlotsOk h → (side_held h rs client).fixed.machines ≤ m → held_at (side_held h rs client).timers m ≡ none
timers_beyond h rs b m ok past =
    ap (λ l. held_at l m) (timers_are h rs b) ∙ held_none 16 m (timer_in h b) (no_timer h rs b ok m (rw (← machines_are h rs b) past))

pub actions_beyond : (h rs : List ℕ) (client : Bool) (m : ℕ) → SlotsOk h → (side_held h rs client).fixed.machines ≤ m → held_at (action_moments (side_held h rs client)) m ≡ none
actions_beyond h rs b m ok past =
    ap (λ l. held_at l m) (moments_are h rs b) ∙ held_none 16 m (moment_in h b) (no_action h rs b ok m (rw (← machines_are h rs b) past))

-- the machines of a side, as they are read
pub machines_held : (h rs : List ℕ) (b : Bool) (n : ℕ) → n ≡ get_or h (8 + side_no (side_of b)) 0 → (side_held h rs b).fixed.machines ≡ n
machines_held h rs b n e = machines_are h rs b ∙ sym e
