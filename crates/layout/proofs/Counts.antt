-- The records used and reserved, of the state and of the words. Assumes nothing.
use Prim.Native.Nat.{ℕ, zero, suc, ◌+◌, ◌*◌, ◌≤◌, ◌<◌}
use mathlib.Core.Path.{◌≡◌, refl, sym, ap, ap₂, ◌∙◌}
use mathlib.Core.List.{List, [], ◌∷◌, map}
use mathlib.Core.Option.{Option, none, some}
use native.Mathlib.Omega.{arith}
use lib.ListN.{length, get_or}
use lib.Dec.{lit<}
use Rattle.rules.specs.Basics.{client, server}
use Rattle.rules.specs.State.{one, used as used_of, reserved as reserved_of, held as held_of}
use Rattle.queue_event.specs.Chain.{Node, nodes}
use Rattle.layout.specs.Header.{timer_of, action_of, held, slots_room, reserved}
use Rattle.layout.specs.Records.{chain_count, count_of, head_of, counts_to, used}
use Rattle.layout.specs.Accepted.{Good, room}
use Rattle.layout.specs.Layout.{held_event, held_stamp, held_aggregate, bank, chains, less_one, action_from, firsts, timers_from, actions_from, state_from}
use Rattle.layout.proofs.Banks.{chains_at, bank_at}

-- ---- used

pub length_map : {A B : Type 0} (f : A → B) (l : List A) → length (map f l) ≡ length l
length_map f [] = refl
length_map f (x ∷ l) = ap suc (length_map f l)

pub length_nodes : (rs : List ℕ) (n h : ℕ) → length (nodes rs n h) ≡ n
unfolding nodes
length_nodes rs zero h = refl
length_nodes rs (suc n) h = ap suc (length_nodes rs n _)

held_chain : {B : Type 0} (h rs : List ℕ) (k : ℕ) (f : Node → B) → k < chain_count → length (map f (chains h rs k)) ≡ count_of h k
held_chain h rs k f l = length_map f (chains h rs k) ∙ ap length (chains_at h rs k l) ∙ length_nodes rs (count_of h k) (head_of h k)

pub used_is : (h rs : List ℕ) → counts_to h chain_count ≡ room rs → used_of (state_from h rs) ≡ used h rs
unfolding used_of state_from counts_to
used_is h rs sum =
    omega
    (arith, sum, held_chain h rs 1 (held_event client) (omega arith), held_chain h rs 2 (held_event client) (omega arith), held_chain h rs 3 (held_event client) (omega arith), held_chain h rs 4 (held_event client) (omega arith), held_chain h rs 5 held_stamp (omega arith), held_chain h rs 6 (held_event server) (omega arith), held_chain h rs 7 (held_event server) (omega arith), held_chain h rs 8 (held_event server) (omega arith), held_chain h rs 9 (held_event server) (omega arith), held_chain h rs 10 held_stamp (omega arith), held_chain h rs 11 held_aggregate (omega arith))

-- ---- reserved

total : ℕ → (ℕ → ℕ) → ℕ
total zero f = 0
total (suc n) f = total n f + f n

total_shift : (n : ℕ) (f : ℕ → ℕ) → total (suc n) f ≡ f 0 + total n (λ i. f (suc i))
unfolding total
total_shift zero f = omega arith
total_shift (suc n) f = omega (arith, total_shift n f)

total_both : (n : ℕ) (f g : ℕ → ℕ) → total n (λ i. f i + 4 * g i) ≡ total n f + 4 * total n g
unfolding total
total_both zero f g = omega arith
total_both (suc n) f g = omega (arith, total_both n f g)

total_same : (n : ℕ) (f g : ℕ → ℕ) → ((i : ℕ) → i < n → f i ≡ g i) → total n f ≡ total n g
unfolding total
total_same zero f g e = refl
total_same (suc n) f g e = ap₂ ◌+◌ (total_same n f g (λ i l. e i (omega arith))) (e n (omega arith))

held_cons : {A : Type 0} (o : Option A) (l : List (Option A)) → held_of (o ∷ l) ≡ one o + held_of l
held_cons none l = omega arith
held_cons (some a) l = refl

held_firsts : {A : Type 0} (n : ℕ) (f : ℕ → Option A) → held_of (firsts n f) ≡ total n (λ i. one (f i))
unfolding total
held_firsts zero f = refl
held_firsts (suc n) f =
    held_cons (f 0) (firsts n (λ i. f (suc i))) ∙ ap (λ x. one (f 0) + x) (held_firsts n (λ i. f (suc i))) ∙ sym (total_shift n (λ i. one (f i)))

one_less_one : (x : ℕ) → one (less_one x) ≡ held x
one_less_one zero = refl
one_less_one (suc n) = omega arith

one_action : (x m d : ℕ) → one (action_from x m d) ≡ held x
unfolding action_from
one_action zero m d = refl
one_action (suc n) m d = omega arith

arrange : (p q t u a b s f g : ℕ) → s ≡ f + 4 * g → f ≡ t + u → g ≡ a + b → (3 * p + t + 4 * a) + (3 * q + u + 4 * b) ≡ 3 * p + 3 * q + s
arrange p q t u a b s f g x y z = omega arith

module _ (h : List ℕ) where
  slots_room_is : (n : ℕ) → slots_room h n ≡ total n (λ j. held (timer_of h j) + 4 * held (action_of h j))
  unfolding total slots_room
  slots_room_is zero = refl
  slots_room_is (suc n) = ap (λ x. x + (held (timer_of h n) + 4 * held (action_of h n))) (slots_room_is n)

  timers_are : (n : ℕ) → n < 2 → held_of (timers_from n (bank 64 32 h)) ≡ total 16 (λ i. held (timer_of h (16 * n + i)))
  timers_are n l =
      held_firsts 16 (λ m. less_one (bank 64 32 h (16 * n + m)))
      ∙ total_same 16 _ _ (λ i k. one_less_one (bank 64 32 h (16 * n + i)) ∙ ap held (bank_at 64 32 h (16 * n + i) (omega arith)))

  actions_are : (n : ℕ) → n < 2 → held_of (actions_from n (bank 96 96 h)) ≡ total 16 (λ i. held (action_of h (16 * n + i)))
  actions_are n l =
      held_firsts 16 (λ m. action_from (bank 96 96 h (3 * (16 * n + m))) (bank 96 96 h (1 + 3 * (16 * n + m))) (bank 96 96 h (2 + 3 * (16 * n + m))))
      ∙ total_same 16 _ _ (λ i k. one_action (bank 96 96 h (3 * (16 * n + i))) _ _ ∙ ap held (bank_at 96 96 h (3 * (16 * n + i)) (omega arith)))

  halves : (f : ℕ → ℕ) → total 32 f ≡ total 16 (λ i. f (16 * 0 + i)) + total 16 (λ i. f (16 * 1 + i))
  unfolding total
  halves f = omega arith

  block_held : (i : ℕ) → i < 24 → one (less_one (bank 0 24 h i)) ≡ held (get_or h (0 + i) 0)
  block_held i l = one_less_one (bank 0 24 h i) ∙ ap held (bank_at 0 24 h i l)

  slots_split : slots_room h 32 ≡ total 32 (λ j. held (timer_of h j)) + 4 * total 32 (λ j. held (action_of h j))
  slots_split = slots_room_is 32 ∙ total_both 32 (λ j. held (timer_of h j)) (λ j. held (action_of h j))

  pub reserved_is : (rs : List ℕ) → reserved_of (state_from h rs) ≡ reserved h
  unfolding reserved_of state_from reserved
  reserved_is rs =
      (λ d. (3 * block_held 12 (lit< tt) d + timers_are 0 (lit< tt) d + 4 * actions_are 0 (lit< tt) d) + (3 * block_held 13 (lit< tt) d + timers_are 1 (lit< tt) d + 4 * actions_are 1 (lit< tt) d))
      ∙ arrange (held (get_or h 12 0)) (held (get_or h 13 0)) _ _ _ _ (slots_room h 32) _ _ slots_split (halves (λ j. held (timer_of h j))) (halves (λ j. held (action_of h j)))

-- ---- both

pub reserve_state : (h rs : List ℕ) → counts_to h chain_count ≡ room rs → used h rs + reserved h ≤ room rs → used_of (state_from h rs) + reserved_of (state_from h rs) ≤ room rs
reserve_state h rs sum fits = omega (arith, used_is h rs sum, reserved_is h rs, fits)

pub reserve_words : (h rs : List ℕ) → Good h rs → used h rs + reserved h ≤ room rs
reserve_words h rs g = omega (arith, used_is h rs g.counts, reserved_is h rs, g.reserve)
