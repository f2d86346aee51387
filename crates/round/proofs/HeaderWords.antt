-- The words of the header read as parts of the state held, and the state after a store to one of them. Assumes nothing.
use Prim.Native.Nat.{ℕ, ◌+◌, ◌*◌, ◌<◌, ◌≤◌, ◌^◌}
use mathlib.Core.Path.{◌≡◌, refl, sym, ap, subst, ◌∙◌}
use mathlib.Core.Bool.{Bool, true, false}
use mathlib.Core.List.{List}
use mathlib.Core.Option.{some}
use native.Mathlib.Omega.{arith}
use native.Mathlib.Numerals.{add-one}
use mir.Val.{bool_byte}
use lib.ListN.{get_or, set, take, length-set}
use lib.Seq.{get_or-take, get_or-set_other}
use Rattle.rules.specs.Basics.{Side, client, server}
use Rattle.rules.specs.State.{State, side, with_side, with_sum, with_block, with_ended, with_rounds, total}
use Rattle.rules.specs.ChoiceRound.{timer_cleared, action_cleared, counted}
use Rattle.queue_event.specs.Tag.{flag}
use Rattle.layout.specs.Layout.{bank, less_one, state_from, state_of, action_from}
use Rattle.layout.specs.Header.{ActionShape}
use Rattle.layout.specs.Shape.{Shaped}
use Rattle.layout.specs.Spare.{Spare}
use Rattle.layout.specs.Changes.{side_no, put_timer, put_action}
use Rattle.layout.proofs.Banks.{bank_at}
use Rattle.layout.proofs.Stores.{sum_shaped, sum_stored, block_shaped, block_stored, flag_shaped, flag_stored, ended_shaped, ended_stored, rounds_shaped, rounds_stored, timer_shaped, timer_stored}
use Rattle.layout.proofs.ActionStores.{action_shaped, action_stored}
use Rattle.layout.proofs.Spares.{spare_head, spare_slots}
use Rattle.round.specs.Changes.{SpareKept, Becomes, raised_by, unblocked, blocked_to, slot_at, bit_of}

-- ---- reading

module _ (w : List ℕ) where
  low : (i : ℕ) → i < 24 → bank 0 24 (take 256 w) i ≡ get_or w i 0
  low i l = bank_at 0 24 (take 256 w) i l ∙ get_or-take 256 w (0 + i) 0 (omega arith) ∙ ap (λ (j : ℕ). get_or w j 0) (omega arith)

  pub sum_word : (z : Side) → get_or w (10 + side_no z) 0 ≡ (side (state_of w) z).sum
  unfolding state_from
  sum_word client = sym (low 10 (omega arith))
  sum_word server = sym (low 11 (omega arith))

  -- no proof of this crate uses it; docs/PORT.md names it
  pub action_word_lem : (z : Side) → get_or w (4 + side_no z) 0 ≡ (side (state_of w) z).fixed.action_delay
  unfolding state_from
  action_word_lem client = sym (low 4 (omega arith))
  action_word_lem server = sym (low 5 (omega arith))

  pub rounds_word : get_or w 17 0 ≡ total (state_of w)
  unfolding state_from
  rounds_word = sym (low 17 (omega arith))

pub side_low : (z : Side) → side_no z ≤ 1
side_low client = omega arith
side_low server = omega arith

-- ---- one word stored

-- it is not one without a meaning
spare_set : (w : List ℕ) (i v : ℕ) → ((j : ℕ) → Spare j → j ≡ i → ⊥) → SpareKept w (set w i v)
spare_set w i v d j s = get_or-set_other w i j v 0 (d j s)

low_spare : (i j : ℕ) → i < 18 → Spare j → j ≡ i → ⊥
low_spare i j l s e = omega (arith, (spare_head j s).0)

slot_spare : (i j : ℕ) → 64 ≤ i → i < 192 → Spare j → j ≡ i → ⊥
slot_spare i j a b s e = spare_slots j i s a b e

pub then_spare : (a b c : List ℕ) → SpareKept a b → SpareKept b c → SpareKept a c
then_spare a b c p q i s = q i s ∙ p i s

-- ---- flags and slots

-- a flag as a number
bit_byte : (b : Bool) → bool_byte b ≡ bit_of b
unfolding bit_of
bit_byte true = refl
bit_byte false = refl

bit_small : (b : Bool) (v : ℕ) → v ≡ bit_of b → v ≤ 1
unfolding bit_of
bit_small true v e = omega arith
bit_small false v e = omega arith

bit_flagged : (b : Bool) → flag (bit_of b) ≡ b
unfolding bit_of
bit_flagged true = refl
bit_flagged false = refl

twice : (s : State) (z : Side) (end : ℕ) (b : Bool) → (let t : State = with_side s z (with_block (side s z) (some end) (side s z).block_bypassable) in with_side t z (with_block (side t z) (side t z).block_end b)) ≡ blocked_to s z end b
twice s client end b = refl
twice s server end b = refl

empty_shape : ActionShape 0 0 0
empty_shape = record { flags = omega arith; kind = λ e. omega arith; padding = λ l. refl; empty = λ e. (refl, refl) }

-- ---- the state after a store

-- a word of the first eighteen
low_becomes : (w : List ℕ) (i v : ℕ) (t : State) → i < 18 → Shaped (set w i v) → state_of (set w i v) ≡ t → Becomes w (set w i v) t
low_becomes w i v t l s e = record { shaped = s; state = e; size = length-set w i v; spare = spare_set w i v (λ j. low_spare i j l) }

-- one store after another
pub becomes_then : (w a b : List ℕ) (s t : State) → Becomes w a s → Becomes a b t → Becomes w b t
becomes_then w a b s t p q =
    record { shaped = q.shaped; state = q.state; size = q.size ∙ p.size; spare = then_spare w a b p.spare q.spare }

module _ (w : List ℕ) (s : Shaped w) (z : Side) where
  pub sum_raised : (at n v : ℕ) → at ≡ 10 + side_no z → v ≡ get_or w at 0 + n → Becomes w (set w at v) (raised_by (state_of w) z n)
  sum_raised at n v e ev =
      subst (λ (i : ℕ). Becomes w (set w at i) (raised_by (state_of w) z n)) (sym ev)
      (subst (λ (i : ℕ). Becomes w (set w i (get_or w i 0 + n)) (raised_by (state_of w) z n)) (sym e)
      (low_becomes w (10 + side_no z) (get_or w (10 + side_no z) 0 + n) _ (omega (arith, side_low z)) (sum_shaped w s _ z)
      (sum_stored w s _ z ∙ ap (λ (x : ℕ). with_side (state_of w) z (with_sum (side (state_of w) z) (x + n))) (sum_word w z))))

  pub sum_fits : (at n : ℕ) → at ≡ 10 + side_no z → (side (state_of w) z).sum + n < 2 ^ 64 → get_or w at 0 + n < 2 ^ 64
  sum_fits at n e l = rw e (omega (arith, sum_word w z))

  pub block_cleared : (at : ℕ) → at ≡ 12 + side_no z → Becomes w (set w at 0) (unblocked (state_of w) z)
  block_cleared at e =
      subst (λ (i : ℕ). Becomes w (set w i 0) (unblocked (state_of w) z)) (sym e)
      (low_becomes w (12 + side_no z) 0 _ (omega (arith, side_low z)) (block_shaped w s 0 z) (block_stored w s 0 z))

  -- a block's end, then its flag
  pub block_set : (at flagged end u v : ℕ) (b : Bool) → at ≡ 12 + side_no z → flagged ≡ 14 + side_no z → u ≡ end + 1 → v ≡ bool_byte b → Becomes w (set (set w at u) flagged v) (blocked_to (state_of w) z end b)
  block_set at flagged end u v b e f eu gb =
      subst (λ (i : ℕ). Becomes w (set (set w at i) flagged v) (blocked_to (state_of w) z end b)) (sym eu)
      (subst (λ (i : ℕ). Becomes w (set (set w i (end + 1)) flagged v) (blocked_to (state_of w) z end b)) (sym e)
      (subst (λ (i : ℕ). Becomes w (set (set w (12 + side_no z) (end + 1)) i v) (blocked_to (state_of w) z end b)) (sym f)
      (becomes_then w w₁ (set w₁ (14 + side_no z) v) _ _ one (low_becomes w₁ (14 + side_no z) v _ (omega (arith, side_low z)) (flag_shaped w₁ one.shaped v z small) two))))
    where
      g : v ≡ bit_of b
      g = gb ∙ bit_byte b

      w₁ : List ℕ
      w₁ = set w (12 + side_no z) (end + 1)

      one : Becomes w (set w (12 + side_no z) (end + 1)) (with_side (state_of w) z (with_block (side (state_of w) z) (some end) (side (state_of w) z).block_bypassable))
      one =
          low_becomes w (12 + side_no z) (end + 1) _ (omega (arith, side_low z)) (block_shaped w s (end + 1) z)
          (block_stored w s (end + 1) z ∙ ap (λ (n : ℕ). with_side (state_of w) z (with_block (side (state_of w) z) (less_one n) (side (state_of w) z).block_bypassable)) (add-one end))

      small : v ≤ 1
      small = bit_small b v g

      two : state_of (set (set w (12 + side_no z) (end + 1)) (14 + side_no z) v) ≡ blocked_to (state_of w) z end b
      two =
          flag_stored (set w (12 + side_no z) (end + 1)) one.shaped v z
          ∙ ap (λ (t : State). with_side t z (with_block (side t z) (side t z).block_end (flag v))) one.state
          ∙ twice (state_of w) z end (flag v) ∙ ap (blocked_to (state_of w) z end) (ap flag g ∙ bit_flagged b)

  pub timer_cleared_lem : (left : List ℕ) (m : ℕ) → m < 16 → left ≡ put_timer (16 * side_no z + m) 0 w → Becomes w left (timer_cleared (state_of w) (slot_at z m))
  unfolding timer_cleared
  timer_cleared_lem left m l e =
      subst (λ (v : List ℕ). Becomes w v (timer_cleared (state_of w) (slot_at z m))) (sym e)
      (record {
        shaped = timer_shaped w s 0 z m l;
        state = timer_stored w s 0 z m l;
        size = length-set w (64 + (16 * side_no z + m)) 0;
        spare = spare_set w (64 + (16 * side_no z + m)) 0 (λ i. slot_spare (64 + (16 * side_no z + m)) i (omega arith) (omega (arith, side_low z)));
      })

  pub action_cleared_lem : (left : List ℕ) (m : ℕ) → m < 16 → left ≡ put_action (16 * side_no z + m) 0 0 0 w → Becomes w left (action_cleared (state_of w) (slot_at z m))
  unfolding action_cleared action_from
  action_cleared_lem left m l e =
      subst (λ (v : List ℕ). Becomes w v (action_cleared (state_of w) (slot_at z m))) (sym e)
      (record {
        shaped = action_shaped w s 0 0 0 z m l empty_shape;
        state = action_stored w s 0 0 0 z m l;
        size = simp length-set;
        spare = then_spare w w₂ (set w₂ (98 + 3 * k) 0) (then_spare w w₁ w₂ (away w 96 (omega arith) (omega arith)) (away w₁ 97 (omega arith) (omega arith))) (away w₂ 98 (omega arith) (omega arith));
      })
    where
      k : ℕ
      k = 16 * side_no z + m

      w₁ : List ℕ
      w₁ = set w (96 + 3 * (16 * side_no z + m)) 0

      w₂ : List ℕ
      w₂ = set (set w (96 + 3 * (16 * side_no z + m)) 0) (97 + 3 * (16 * side_no z + m)) 0

      away : (x : List ℕ) (n : ℕ) → 96 ≤ n → n ≤ 98 → SpareKept x (set x (n + 3 * (16 * side_no z + m)) 0)
      away x n a b = spare_set x (n + 3 * (16 * side_no z + m)) 0 (λ i. slot_spare (n + 3 * (16 * side_no z + m)) i (omega arith) (omega (arith, side_low z)))

module _ (w : List ℕ) (s : Shaped w) where
  pub ended_set : Becomes w (set w 16 1) (with_ended (state_of w) true)
  ended_set = low_becomes w 16 1 _ (omega arith) (ended_shaped w s 1 (omega arith)) (ended_stored w s 1)

  pub rounds_raised : Becomes w (set w 17 (get_or w 17 0 + 1)) (counted (state_of w))
  rounds_raised =
      low_becomes w 17 (get_or w 17 0 + 1) _ (omega arith) (rounds_shaped w s _)
      (rounds_stored w s _ ∙ ap (λ (n : ℕ). with_rounds (state_of w) (n + 1)) (rounds_word w))
