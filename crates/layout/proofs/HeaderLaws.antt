-- What a store to a word of the header does to the state. Assumes nothing.
use Prim.Native.Nat.{ℕ, zero, suc, ◌+◌, ◌*◌, ◌/◌, ◌<◌, ◌≤◌}
use mathlib.Core.Path.{◌≡◌, refl, ap, ap₂, ◌∙◌}
use mathlib.Core.List.{List, ◌∷◌}
use mathlib.Core.Option.{Option}
use mathlib.Core.Logic.{inl, inr, ◌⊎◌}
use native.Mathlib.Omega.{arith}
use lib.ListN.{length, set, length-set}
use Rattle.rules.specs.Basics.{Side, client, server}
use Rattle.rules.specs.State.{State, side, with_side, with_sum, with_block, with_timers, with_rounds, with_ended, Action, with_actions}
use Rattle.queue_event.specs.Tag.{flag}
use Rattle.layout.specs.Changes.{side_no, put_action}
use Rattle.layout.specs.Layout.{bank, chains, less_one, firsts, timers_from, build, state_from, action_from, actions_from}
use Rattle.layout.proofs.Banks.{upd, upd_same, upd_other, bank_in, bank_out, chains_out}

-- ---- lists of slots

firsts_same : {A : Type 0} (n : ℕ) (f g : ℕ → A) → ((i : ℕ) → i < n → g i ≡ f i) → firsts n g ≡ firsts n f
firsts_same zero f g e = refl
firsts_same (suc n) f g e = ap₂ (λ a l. a ∷ l) (e 0 (omega arith)) (firsts_same n (λ i. f (suc i)) (λ i. g (suc i)) (λ i l. e (suc i) (omega arith)))

-- a list of slots, where the value of one is new
firsts_set : {A : Type 0} (n : ℕ) (f g : ℕ → A) (m : ℕ) (x : A) → m < n → g m ≡ x → ((i : ℕ) → i < n → (i ≡ m → ⊥) → g i ≡ f i) → firsts n g ≡ set (firsts n f) m x
firsts_set zero f g m x l q e = absurd (omega arith)
firsts_set (suc n) f g zero x l q e = ap₂ (λ a l. a ∷ l) q (firsts_same n (λ i. f (suc i)) (λ i. g (suc i)) (λ i k. e (suc i) (omega arith) (λ z. omega arith)))
firsts_set (suc n) f g (suc m) x l q e =
    ap₂ (λ a l. a ∷ l) (e 0 (omega arith) (λ z. omega arith)) (firsts_set n (λ i. f (suc i)) (λ i. g (suc i)) m x (omega arith) q (λ i k d. e (suc i) (omega arith) (λ z. d (omega arith))))

pub timers_in : (n : ℕ) (t : ℕ → ℕ) (m v : ℕ) → m < 16 → timers_from n (upd t (16 * n + m) v) ≡ set (timers_from n t) m (less_one v)
timers_in n t m v l =
    firsts_set 16 (λ i. less_one (t (16 * n + i))) (λ i. less_one (upd t (16 * n + m) v (16 * n + i))) m (less_one v) l
    (ap less_one (upd_same t (16 * n + m) v)) (λ i k d. ap less_one (upd_other t (16 * n + m) v (16 * n + i) (λ z. d (omega arith))))

pub timers_out : (n k : ℕ) (t : ℕ → ℕ) (m v : ℕ) → m < 16 → (n ≡ k → ⊥) → timers_from n (upd t (16 * k + m) v) ≡ timers_from n t
timers_out n k t m v l d =
    firsts_same 16 (λ i. less_one (t (16 * n + i))) (λ i. less_one (upd t (16 * k + m) v (16 * n + i)))
    (λ i j. ap less_one (upd_other t (16 * k + m) v (16 * n + i) (λ z. d (omega arith))))

-- an action's three words
abbrev pub upd_action : (ℕ → ℕ) → ℕ → ℕ → ℕ → ℕ → ℕ → ℕ
upd_action f j a m d = upd (upd (upd f (3 * j) a) (1 + 3 * j) m) (2 + 3 * j) d

abbrev action_at : (ℕ → ℕ) → ℕ → Option Action
action_at f j = action_from (f (3 * j)) (f (1 + 3 * j)) (f (2 + 3 * j))

module _ (f : ℕ → ℕ) (j a m d : ℕ) where
  action_other : (i : ℕ) → (i ≡ 3 * j → ⊥) → (i ≡ 1 + 3 * j → ⊥) → (i ≡ 2 + 3 * j → ⊥) → upd_action f j a m d i ≡ f i
  action_other i x y z =
      upd_other (upd (upd f (3 * j) a) (1 + 3 * j) m) (2 + 3 * j) d i z ∙ upd_other (upd f (3 * j) a) (1 + 3 * j) m i y ∙ upd_other f (3 * j) a i x

  action_at_lem : action_at (upd_action f j a m d) j ≡ action_from a m d
  action_at_lem = λ t. action_from (first t) (second t) (upd_same (upd (upd f (3 * j) a) (1 + 3 * j) m) (2 + 3 * j) d t)
    where
      first : upd_action f j a m d (3 * j) ≡ a
      first = upd_other (upd (upd f (3 * j) a) (1 + 3 * j) m) (2 + 3 * j) d (3 * j) (λ e. omega arith) ∙ upd_other (upd f (3 * j) a) (1 + 3 * j) m (3 * j) (λ e. omega arith) ∙ upd_same f (3 * j) a

      second : upd_action f j a m d (1 + 3 * j) ≡ m
      second = upd_other (upd (upd f (3 * j) a) (1 + 3 * j) m) (2 + 3 * j) d (1 + 3 * j) (λ e. omega arith) ∙ upd_same (upd f (3 * j) a) (1 + 3 * j) m

  action_off : (i : ℕ) → (i ≡ j → ⊥) → action_at (upd_action f j a m d) i ≡ action_at f i
  action_off i n = λ t.
      action_from (action_other (3 * i) (λ e. n (omega arith)) (λ e. omega arith) (λ e. omega arith) t)
      (action_other (1 + 3 * i) (λ e. omega arith) (λ e. n (omega arith)) (λ e. omega arith) t)
      (action_other (2 + 3 * i) (λ e. omega arith) (λ e. omega arith) (λ e. n (omega arith)) t)

pub actions_in : (n : ℕ) (f : ℕ → ℕ) (i a m d : ℕ) → i < 16 → actions_from n (upd_action f (16 * n + i) a m d) ≡ set (actions_from n f) i (action_from a m d)
actions_in n f i a m d l =
    firsts_set 16 (λ k. action_at f (16 * n + k)) (λ k. action_at (upd_action f (16 * n + i) a m d) (16 * n + k)) i (action_from a m d) l
    (action_at_lem f (16 * n + i) a m d) (λ k s e. action_off f (16 * n + i) a m d (16 * n + k) (λ z. e (omega arith)))

pub actions_out : (n k : ℕ) (f : ℕ → ℕ) (i a m d : ℕ) → i < 16 → (n ≡ k → ⊥) → actions_from n (upd_action f (16 * k + i) a m d) ≡ actions_from n f
actions_out n k f i a m d l e =
    firsts_same 16 (λ q. action_at f (16 * n + q)) (λ q. action_at (upd_action f (16 * k + i) a m d) (16 * n + q))
    (λ q s. action_off f (16 * k + i) a m d (16 * n + q) (λ z. e (omega arith)))

-- the timers of both sides given anew
abbrev pub with_both_timers : State → List (Option ℕ) → List (Option ℕ) → State
with_both_timers s x y = with_side (with_side s client (with_timers s.client x)) server (with_timers s.server y)

-- the actions of both sides given anew
abbrev pub with_both_actions : State → List (Option Action) → List (Option Action) → State
with_both_actions s x y = with_side (with_side s client (with_actions s.client x)) server (with_actions s.server y)

-- ---- a store, by the bank that it goes to: the state is built from the banks so changed

module _ (h rs : List ℕ) (v : ℕ) (whole : length h ≡ 256) where
  pub low_store : (i : ℕ) → i < 24 → state_from (set h (0 + i) v) rs ≡ build (upd (bank 0 24 h) i v) (bank 64 32 h) (bank 96 96 h) (chains h rs) (length rs / 4)
  unfolding state_from
  low_store i l = λ d.
      build (bank_in 0 24 h i v l (omega arith) d) (bank_out 64 32 h (0 + i) v (inl (omega arith)) d) (bank_out 96 96 h (0 + i) v (inl (omega arith)) d) (chains_out h rs (0 + i) v (inl (omega arith)) d) (length rs / 4)

  pub timer_store : (j : ℕ) → j < 32 → state_from (set h (64 + j) v) rs ≡ build (bank 0 24 h) (upd (bank 64 32 h) j v) (bank 96 96 h) (chains h rs) (length rs / 4)
  unfolding state_from
  timer_store j l = λ d.
      build (bank_out 0 24 h (64 + j) v (inr (omega arith)) d) (bank_in 64 32 h j v l (omega arith) d) (bank_out 96 96 h (64 + j) v (inl (omega arith)) d) (chains_out h rs (64 + j) v (inr (omega arith)) d) (length rs / 4)

  -- ---- the laws, one for each word that a call writes

  pub rounds_law : state_from (set h 17 v) rs ≡ with_rounds (state_from h rs) v
  unfolding state_from
  rounds_law = low_store 17 (omega arith)

  pub sum_law : (z : Side) → state_from (set h (10 + side_no z) v) rs ≡ with_side (state_from h rs) z (with_sum (side (state_from h rs) z) v)
  unfolding state_from
  sum_law client = low_store 10 (omega arith)
  sum_law server = low_store 11 (omega arith)

  pub block_law : (z : Side) → state_from (set h (12 + side_no z) v) rs ≡ with_side (state_from h rs) z (with_block (side (state_from h rs) z) (less_one v) (side (state_from h rs) z).block_bypassable)
  unfolding state_from
  block_law client = low_store 12 (omega arith)
  block_law server = low_store 13 (omega arith)

  pub flag_law : (z : Side) → state_from (set h (14 + side_no z) v) rs ≡ with_side (state_from h rs) z (with_block (side (state_from h rs) z) (side (state_from h rs) z).block_end (flag v))
  unfolding state_from
  flag_law client = low_store 14 (omega arith)
  flag_law server = low_store 15 (omega arith)

  pub ended_law : state_from (set h 16 v) rs ≡ with_ended (state_from h rs) (flag v)
  unfolding state_from
  ended_law = low_store 16 (omega arith)

  pub timer_law : (z : Side) (m : ℕ) → m < 16 → state_from (set h (64 + (16 * side_no z + m)) v) rs ≡ with_side (state_from h rs) z (with_timers (side (state_from h rs) z) (set (side (state_from h rs) z).timers m (less_one v)))
  unfolding state_from
  timer_law client m l =
      timer_store (16 * 0 + m) (omega arith)
      ∙ (λ d. with_both_timers (state_from h rs) (timers_in 0 (bank 64 32 h) m v l d) (timers_out 1 0 (bank 64 32 h) m v l (λ e. omega arith) d))
  timer_law server m l =
      timer_store (16 * 1 + m) (omega arith)
      ∙ (λ d. with_both_timers (state_from h rs) (timers_out 0 1 (bank 64 32 h) m v l (λ e. omega arith) d) (timers_in 1 (bank 64 32 h) m v l d))

-- an action's three words
module _ (h rs : List ℕ) (a m d : ℕ) (whole : length h ≡ 256) where
  actions_store : (j : ℕ) → j < 32 → state_from (put_action j a m d h) rs ≡ build (bank 0 24 h) (bank 64 32 h) (upd_action (bank 96 96 h) j a m d) (chains h rs) (length rs / 4)
  unfolding state_from
  actions_store j l = λ t.
      build
      ((out 0 24 (inr (omega arith)) ∙ out₂ 0 24 (inr (omega arith)) ∙ bank_out 0 24 h (96 + 3 * j) a (inr (omega arith))) t)
      ((out 64 32 (inr (omega arith)) ∙ out₂ 64 32 (inr (omega arith)) ∙ bank_out 64 32 h (96 + 3 * j) a (inr (omega arith))) t)
      (within t)
      ((chains_out (set (set h (96 + 3 * j) a) (97 + 3 * j) m) rs (98 + 3 * j) d (inr (omega arith)) ∙ chains_out (set h (96 + 3 * j) a) rs (97 + 3 * j) m (inr (omega arith)) ∙ chains_out h rs (96 + 3 * j) a (inr (omega arith))) t)
      (length rs / 4)
    where
      out : (b n : ℕ) → (98 + 3 * j < b) ⊎ (b + n ≤ 98 + 3 * j) → bank b n (put_action j a m d h) ≡ bank b n (set (set h (96 + 3 * j) a) (97 + 3 * j) m)
      out b n o = bank_out b n (set (set h (96 + 3 * j) a) (97 + 3 * j) m) (98 + 3 * j) d o

      out₂ : (b n : ℕ) → (97 + 3 * j < b) ⊎ (b + n ≤ 97 + 3 * j) → bank b n (set (set h (96 + 3 * j) a) (97 + 3 * j) m) ≡ bank b n (set h (96 + 3 * j) a)
      out₂ b n o = bank_out b n (set h (96 + 3 * j) a) (97 + 3 * j) m o

      within : bank 96 96 (put_action j a m d h) ≡ upd_action (bank 96 96 h) j a m d
      within =
          let e₂ : 98 + 3 * j ≡ 96 + (2 + 3 * j) = omega arith in
          let e₁ : 97 + 3 * j ≡ 96 + (1 + 3 * j) = omega arith in
          ap₂ (λ p q. bank 96 96 (set (set (set h (96 + 3 * j) a) p m) q d)) e₁ e₂
          ∙ bank_in 96 96 (set (set h (96 + 3 * j) a) (96 + (1 + 3 * j)) m) (2 + 3 * j) d (omega arith) (simp length-set (omega arith))
          ∙ ap (λ f. upd f (2 + 3 * j) d) (bank_in 96 96 (set h (96 + 3 * j) a) (1 + 3 * j) m (omega arith) (simp length-set (omega arith)))
          ∙ ap (λ f. upd (upd f (1 + 3 * j) m) (2 + 3 * j) d) (bank_in 96 96 h (3 * j) a (omega arith) (omega arith))

  pub action_law : (z : Side) (i : ℕ) → i < 16 → state_from (put_action (16 * side_no z + i) a m d h) rs ≡ with_side (state_from h rs) z (with_actions (side (state_from h rs) z) (set (side (state_from h rs) z).actions i (action_from a m d)))
  unfolding state_from
  action_law client i l =
      actions_store (16 * 0 + i) (omega arith)
      ∙ (λ t. with_both_actions (state_from h rs) (actions_in 0 (bank 96 96 h) i a m d l t) (actions_out 1 0 (bank 96 96 h) i a m d l (λ e. omega arith) t))
  action_law server i l =
      actions_store (16 * 1 + i) (omega arith)
      ∙ (λ t. with_both_actions (state_from h rs) (actions_out 0 1 (bank 96 96 h) i a m d l (λ e. omega arith) t) (actions_in 1 (bank 96 96 h) i a m d l t))
