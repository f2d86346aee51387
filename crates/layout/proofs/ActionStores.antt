-- The three words of an action's slot stored in a row, in the whole block: the words keep the shape, and which state they then hold. Assumes nothing.
use Prim.Native.Nat.{ℕ, ◌+◌, ◌*◌, ◌<◌}
use mathlib.Core.Path.{◌≡◌, sym, ap₂, subst, ◌∙◌}
use mathlib.Core.List.{List}
use native.Mathlib.Omega.{arith}
use native.Mathlib.Decide.{ℕ_discrete}
use lib.ListN.{length, get_or, set, take, drop, length-set}
use lib.Seq.{get_or-set_same, get_or-set_other, take-set-lt, drop-set-lt}
use Rattle.rules.specs.Basics.{Side, client, server}
use Rattle.rules.specs.State.{side, with_side, with_actions}
use Rattle.layout.specs.Header.{ActionShape, action_of, action_moment, action_duration}
use Rattle.layout.specs.Accepted.{SizeOk}
use Rattle.layout.specs.Layout.{action_from, state_from, state_of}
use Rattle.layout.specs.Shape.{SlotsShape, Shape, Shaped}
use Rattle.layout.specs.Changes.{side_no, put_action}
use Rattle.layout.proofs.HeaderLaws.{action_law}
use Rattle.layout.proofs.Stores.{linked_shape}

-- ---- the words of the header

module _ (h : List ℕ) (j a t d : ℕ) where
  pub length_action : length (put_action j a t d h) ≡ length h
  length_action = simp length-set

  pub action_far : (i : ℕ) → (i ≡ 96 + 3 * j → ⊥) → (i ≡ 97 + 3 * j → ⊥) → (i ≡ 98 + 3 * j → ⊥) → get_or (put_action j a t d h) i 0 ≡ get_or h i 0
  action_far i x y z =
      get_or-set_other (set (set h (96 + 3 * j) a) (97 + 3 * j) t) (98 + 3 * j) i d 0 z ∙ get_or-set_other (set h (96 + 3 * j) a) (97 + 3 * j) i t 0 y
      ∙ get_or-set_other h (96 + 3 * j) i a 0 x

  module _ (wide : length h ≡ 256) (small : j < 32) where
    action_first : action_of (put_action j a t d h) j ≡ a
    action_first =
        get_or-set_other (set (set h (96 + 3 * j) a) (97 + 3 * j) t) (98 + 3 * j) (96 + 3 * j) d 0 (λ e. omega arith)
        ∙ get_or-set_other (set h (96 + 3 * j) a) (97 + 3 * j) (96 + 3 * j) t 0 (λ e. omega arith) ∙ get_or-set_same h (96 + 3 * j) a 0 (omega arith)

    action_second : action_moment (put_action j a t d h) j ≡ t
    action_second =
        get_or-set_other (set (set h (96 + 3 * j) a) (97 + 3 * j) t) (98 + 3 * j) (97 + 3 * j) d 0 (λ e. omega arith)
        ∙ get_or-set_same (set h (96 + 3 * j) a) (97 + 3 * j) t 0 (simp length-set (omega arith))

    action_third : action_duration (put_action j a t d h) j ≡ d
    action_third = get_or-set_same (set (set h (96 + 3 * j) a) (97 + 3 * j) t) (98 + 3 * j) d 0 (simp length-set (omega arith))

    action_slots : ActionShape a t d → SlotsShape h → SlotsShape (put_action j a t d h)
    action_slots new s k l = go (ℕ_discrete k j)
      where
        go : Dec (k ≡ j) → ActionShape (action_of (put_action j a t d h) k) (action_moment (put_action j a t d h) k) (action_duration (put_action j a t d h) k)
        go (yes e) = rw (e, action_first, action_second, action_third) new
        go (no n) =
            rw (action_far (96 + 3 * k) (λ e. n (omega arith)) (λ e. omega arith) (λ e. omega arith), action_far (97 + 3 * k) (λ e. omega arith) (λ e. n (omega arith)) (λ e. omega arith), action_far (98 + 3 * k) (λ e. omega arith) (λ e. omega arith) (λ e. n (omega arith)))
            (s k l)

    pub action_shape : (rs : List ℕ) → Shape h rs → ActionShape a t d → Shape (put_action j a t d h) rs
    action_shape rs s new =
        linked_shape h (put_action j a t d h) rs (λ i x y. action_far i (λ e. omega arith) (λ e. omega arith) (λ e. omega arith)) s (length_action ∙ wide)
        (λ i x y. rw (action_far i (λ e. omega arith) (λ e. omega arith) (λ e. omega arith)) (s.flags i x y)) (action_slots new s.slots)

-- ---- the whole block

module _ (w : List ℕ) (j a t d : ℕ) (small : j < 32) where
  front_action : take 256 (put_action j a t d w) ≡ put_action j a t d (take 256 w)
  front_action =
      rw (take-set-lt 256 (set (set w (96 + 3 * j) a) (97 + 3 * j) t) (98 + 3 * j) d (omega arith), take-set-lt 256 (set w (96 + 3 * j) a) (97 + 3 * j) t (omega arith), take-set-lt 256 w (96 + 3 * j) a (omega arith))

  back_action : drop 256 (put_action j a t d w) ≡ drop 256 w
  back_action =
      drop-set-lt 256 (set (set w (96 + 3 * j) a) (97 + 3 * j) t) (98 + 3 * j) d (omega arith) ∙ drop-set-lt 256 (set w (96 + 3 * j) a) (97 + 3 * j) t (omega arith)
      ∙ drop-set-lt 256 w (96 + 3 * j) a (omega arith)

module _ (w : List ℕ) (s : Shaped w) (a t d : ℕ) (z : Side) (m : ℕ) (l : m < 16) where
  abbrev slot : ℕ
  slot = 16 * side_no z + m

  slot_small : 16 * side_no z + m < 32
  slot_small = go z
    where
      go : (y : Side) → 16 * side_no y + m < 32
      go client = omega arith
      go server = omega arith

  pub action_shaped : ActionShape a t d → Shaped (put_action (16 * side_no z + m) a t d w)
  action_shaped new =
      record {
        size = subst SizeOk (sym (length_action w slot a t d)) s.size;
        shape = subst (λ h. Shape h (drop 256 (put_action slot a t d w))) (sym (front_action w slot a t d slot_small)) (subst (Shape (put_action slot a t d (take 256 w))) (sym (back_action w slot a t d slot_small)) (action_shape (take 256 w) slot a t d s.shape.wide slot_small (drop 256 w) s.shape new));
      }

  pub action_stored :
      state_of (put_action (16 * side_no z + m) a t d w) ≡ with_side (state_of w) z (with_actions (side (state_of w) z) (set (side (state_of w) z).actions m (action_from a t d)))
  action_stored = ap₂ state_from (front_action w slot a t d slot_small) (back_action w slot a t d slot_small) ∙ action_law (take 256 w) (drop 256 w) a t d s.shape.wide z m l
