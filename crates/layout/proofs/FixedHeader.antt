-- Two states that are one, with the same words where words have no meaning, fix every word of the header. Assumes nothing.
use Prim.Native.Nat.{ℕ, zero, suc, ◌+◌, ◌-◌, ◌*◌, ◌/◌, ◌%◌, ◌<◌, ◌≤◌}
use mathlib.Core.Bool.{Bool, true, false}
use mathlib.Core.List.{List}
use mathlib.Core.Option.{Option, none}
use mathlib.Core.Path.{◌≡◌, refl, sym, ap, subst, ◌∙◌}
use native.Mathlib.Omega.{arith}
use lib.Dec.{ltb}
use lib.ListN.{get_or}
use borrow.Author.Tests.{ltb-true, ltb-false}
use Rattle.rules.specs.State.{Action}
use Rattle.layout.specs.Accepted.{Good}
use Rattle.layout.specs.Header.{SlotOk}
use Rattle.layout.specs.Layout.{less_one, bank, firsts, action_from, state_from}
use Rattle.layout.specs.Spare.{Spare}
use Rattle.layout.proofs.Spares.{spare_low, spare_middle, spare_last}
use Rattle.layout.proofs.Banks.{bank_at}
use Rattle.layout.proofs.FixedValues.{less_one_lem, action_same}
use Rattle.layout.proofs.FixedChains.{low_same, links_same}

-- ---- slots

pub firsts_at : {A : Type 0} (n : ℕ) (f : ℕ → A) (m : ℕ) (d : A) → m < n → get_or (firsts n f) m d ≡ f m
firsts_at zero f m d l = absurd (omega arith)
firsts_at (suc n) f zero d l = refl
firsts_at (suc n) f (suc m) d l = firsts_at n (λ i. f (suc i)) m d (omega arith)

-- a slot's action, from the bank and from the header
abbrev three : List ℕ → ℕ → ℕ → Option Action
three x n i = action_from (bank 96 96 x (3 * (16 * n + i))) (bank 96 96 x (1 + 3 * (16 * n + i))) (bank 96 96 x (2 + 3 * (16 * n + i)))

pub action_bank : (x : List ℕ) (j : ℕ) → j < 32
    → action_from (bank 96 96 x (3 * j)) (bank 96 96 x (1 + 3 * j)) (bank 96 96 x (2 + 3 * j)) ≡ action_from (get_or x (96 + 3 * j) 0) (get_or x (97 + 3 * j) 0) (get_or x (98 + 3 * j) 0)
action_bank x j l =
    let e₁ : 96 + (1 + 3 * j) ≡ 97 + 3 * j = omega arith in
    let e₂ : 96 + (2 + 3 * j) ≡ 98 + 3 * j = omega arith in
    λ d. action_from (bank_at 96 96 x (3 * j) (omega arith) d) ((bank_at 96 96 x (1 + 3 * j) (omega arith) ∙ ap (λ q. get_or x q 0) e₁) d) ((bank_at 96 96 x (2 + 3 * j) (omega arith) ∙ ap (λ q. get_or x q 0) e₂) d)

action_from_lem : (x : List ℕ) (j : ℕ) → j < 32 → three x (j / 16) (j % 16) ≡ action_from (get_or x (96 + 3 * j) 0) (get_or x (97 + 3 * j) 0) (get_or x (98 + 3 * j) 0)
action_from_lem x j l =
    let e : 16 * (j / 16) + j % 16 ≡ j = omega arith in
    ap (λ q. action_from (bank 96 96 x (3 * q)) (bank 96 96 x (1 + 3 * q)) (bank 96 96 x (2 + 3 * q))) e ∙ action_bank x j l

module _ (h rs h' rs' : List ℕ) (g : Good h rs) (g' : Good h' rs') (same : state_from h rs ≡ state_from h' rs') where
  slot_timer : (n m : ℕ) → n < 2 → m < 16 → bank 64 32 h (16 * n + m) ≡ bank 64 32 h' (16 * n + m)
  unfolding state_from
  slot_timer zero m ln l = less_one_lem _ _ (sym (firsts_at 16 (λ i. less_one (bank 64 32 h (16 * 0 + i))) m none l) ∙ ap (λ s. get_or s.client.timers m none) same ∙ firsts_at 16 (λ i. less_one (bank 64 32 h' (16 * 0 + i))) m none l)
  slot_timer (suc zero) m ln l = less_one_lem _ _ (sym (firsts_at 16 (λ i. less_one (bank 64 32 h (16 * 1 + i))) m none l) ∙ ap (λ s. get_or s.server.timers m none) same ∙ firsts_at 16 (λ i. less_one (bank 64 32 h' (16 * 1 + i))) m none l)
  slot_timer (suc (suc n)) m ln l = absurd (omega arith)

  slot_action : (n m : ℕ) → n < 2 → m < 16 → three h n m ≡ three h' n m
  unfolding state_from
  slot_action zero m ln l = sym (firsts_at 16 (three h 0) m none l) ∙ ap (λ s. get_or s.client.actions m none) same ∙ firsts_at 16 (three h' 0) m none l
  slot_action (suc zero) m ln l = sym (firsts_at 16 (three h 1) m none l) ∙ ap (λ s. get_or s.server.actions m none) same ∙ firsts_at 16 (three h' 1) m none l
  slot_action (suc (suc n)) m ln l = absurd (omega arith)

  -- the same by the slot's number
  timer_same : (j : ℕ) → j < 32 → get_or h (64 + j) 0 ≡ get_or h' (64 + j) 0
  timer_same j l =
      let e : 16 * (j / 16) + j % 16 ≡ j = omega arith in
      sym (bank_at 64 32 h j l) ∙ sym (ap (bank 64 32 h) e) ∙ slot_timer (j / 16) (j % 16) (omega arith) (omega arith) ∙ ap (bank 64 32 h') e ∙ bank_at 64 32 h' j l

  action_words : (slots : (j : ℕ) → j < 32 → SlotOk h j) (slots' : (j : ℕ) → j < 32 → SlotOk h' j) (j : ℕ) → j < 32
      → (get_or h (96 + 3 * j) 0 ≡ get_or h' (96 + 3 * j) 0) × ((get_or h (97 + 3 * j) 0 ≡ get_or h' (97 + 3 * j) 0) × (get_or h (98 + 3 * j) 0 ≡ get_or h' (98 + 3 * j) 0))
  action_words slots slots' j l =
      action_same _ _ _ _ _ _ (slots j l).action.shape (slots' j l).action.shape (sym (action_from_lem h j l) ∙ slot_action (j / 16) (j % 16) (omega arith) (omega arith) ∙ action_from_lem h' j l)

  -- ---- every word of the header

  module _ (spare : (i : ℕ) → Spare i → get_or h i 0 ≡ get_or h' i 0) where
    link_word : (i : ℕ) → 24 ≤ i → i < 48 → get_or h i 0 ≡ get_or h' i 0
    link_word i a b = go (i % 2) refl (omega arith)
      where
        k : ℕ
        k = (i - 24) / 2

        go : (x : ℕ) → i % 2 ≡ x → x < 2 → get_or h i 0 ≡ get_or h' i 0
        go zero e l = let q : 24 + 2 * ((i - 24) / 2) ≡ i = omega arith in subst (λ x. get_or h x 0 ≡ get_or h' x 0) q (links_same h rs h' rs' g g' same ((i - 24) / 2) (omega arith)).1
        go (suc zero) e l = let q : 25 + 2 * ((i - 24) / 2) ≡ i = omega arith in subst (λ x. get_or h x 0 ≡ get_or h' x 0) q (links_same h rs h' rs' g g' same ((i - 24) / 2) (omega arith)).0
        go (suc (suc x)) e l = absurd (omega arith)

    action_word_lem : (i : ℕ) → 96 ≤ i → i < 192 → get_or h i 0 ≡ get_or h' i 0
    action_word_lem i a b = go (i % 3) refl (omega arith) (action_words g.slots g'.slots ((i - 96) / 3) (omega arith))
      where
        go : (x : ℕ) → i % 3 ≡ x → x < 3
            → (get_or h (96 + 3 * ((i - 96) / 3)) 0 ≡ get_or h' (96 + 3 * ((i - 96) / 3)) 0) × ((get_or h (97 + 3 * ((i - 96) / 3)) 0 ≡ get_or h' (97 + 3 * ((i - 96) / 3)) 0) × (get_or h (98 + 3 * ((i - 96) / 3)) 0 ≡ get_or h' (98 + 3 * ((i - 96) / 3)) 0))
            → get_or h i 0 ≡ get_or h' i 0
        go zero e l w = let q : 96 + 3 * ((i - 96) / 3) ≡ i = omega arith in subst (λ x. get_or h x 0 ≡ get_or h' x 0) q w.0
        go (suc zero) e l w = let q : 97 + 3 * ((i - 96) / 3) ≡ i = omega arith in subst (λ x. get_or h x 0 ≡ get_or h' x 0) q w.1.0
        go (suc (suc zero)) e l w = let q : 98 + 3 * ((i - 96) / 3) ≡ i = omega arith in subst (λ x. get_or h x 0 ≡ get_or h' x 0) q w.1.1
        go (suc (suc (suc x))) e l w = absurd (omega arith)

    timer_word : (i : ℕ) → 64 ≤ i → i < 96 → get_or h i 0 ≡ get_or h' i 0
    timer_word i a b = let q : 64 + (i - 64) ≡ i = omega arith in subst (λ x. get_or h x 0 ≡ get_or h' x 0) q (timer_same (i - 64) (omega arith))

    pub header_fixed : (i : ℕ) → i < 256 → get_or h i 0 ≡ get_or h' i 0
    header_fixed i l = go (ltb i 18) refl (ltb i 24) refl (ltb i 48) refl (ltb i 64) refl (ltb i 96) refl (ltb i 192) refl
      where
        go : (a : Bool) → ltb i 18 ≡ a → (b : Bool) → ltb i 24 ≡ b → (c : Bool) → ltb i 48 ≡ c → (d : Bool) → ltb i 64 ≡ d → (e : Bool) → ltb i 96 ≡ e → (f : Bool) → ltb i 192 ≡ f → get_or h i 0 ≡ get_or h' i 0
        go true p b q c r d s e t f u = low_same h rs h' rs' g g' same i (ltb-true i 18 p)
        go false p true q c r d s e t f u = spare i (spare_low i (ltb-false i 18 p) (ltb-true i 24 q))
        go false p false q true r d s e t f u = link_word i (ltb-false i 24 q) (ltb-true i 48 r)
        go false p false q false r true s e t f u = spare i (spare_middle i (ltb-false i 48 r) (ltb-true i 64 s))
        go false p false q false r false s true t f u = timer_word i (ltb-false i 64 s) (ltb-true i 96 t)
        go false p false q false r false s false t true u = action_word_lem i (ltb-false i 96 t) (ltb-true i 192 u)
        go false p false q false r false s false t false u = spare i (spare_last i (ltb-false i 192 u) l)
