-- Two accepted blocks of one length have the same packed words exactly when what they hold agrees; packing twice is packing once. Assumes nothing.
use Prim.Native.Nat.{ℕ, suc, ◌<◌, ◌-◌, ◌/◌}
use mathlib.Core.Path.{◌≡◌, sym, ap, subst, subst⁻¹, ◌∙◌}
use mathlib.Core.List.{List}
use native.Mathlib.Decide.{ℕ_discrete}
use lib.ListN.{length, get_or, length-drop}
use lib.Seq.{ext_get_or}
use Rattle.rules.specs.Contents.{Agree}
use Rattle.laws.specs.Packed.{agree_packed, packed_agrees, packed_keeps}
use Rattle.layout.specs.Accepted.{Accepted}
use Rattle.layout.specs.Layout.{state_from, state_of}
use Rattle.layout.specs.Places.{Has}
use Rattle.layout.specs.Spare.{Open}
use Rattle.layout.specs.Packed.{packed_words}
use Rattle.layout.proofs.Fixed.{words_fixed}
use Rattle.layout.proofs.PackedGood.{packed_size, packed_accepted}
use Rattle.layout.proofs.PackedState.{packed_state}
use Rattle.layout.proofs.PackedOpen.{packed_spare, packed_open}

-- blocks of one length have one R
pub one_room : (w v : List ℕ) → length w ≡ length v → (state_of w).room ≡ (state_of v).room
unfolding state_from
one_room w v e = ap (λ n. n / 4) (length-drop 256 w ∙ ap (λ n. n - 256) e ∙ sym (length-drop 256 v))

-- which words of free records have no meaning, the state says
open_same : (w v : List ℕ) (i : ℕ) → state_of w ≡ state_of v → Open w i → Open v i
open_same w v i e (l, (m, y)) = (l, (m, subst (λ s. Has (suc ((i - 256) / 4)) s.free) e y))

module _ (w v : List ℕ) (a : Accepted w) (b : Accepted v) (n : length w ≡ length v) where
  -- packed words that hold one state are the same: the state fixes every word with a meaning, and the others are 0
  one_state : state_of (packed_words w) ≡ state_of (packed_words v) → packed_words w ≡ packed_words v
  one_state s = ext_get_or 0 (packed_words w) (packed_words v) (packed_size w a ∙ n ∙ sym (packed_size v b)) word
    where
      word : (i : ℕ) → i < length (packed_words w) → get_or (packed_words w) i 0 ≡ get_or (packed_words v) i 0
      word i l = go (ℕ_discrete (get_or (packed_words w) i 0) (get_or (packed_words v) i 0))
        where
          zero_in_both : Open (packed_words w) i → get_or (packed_words w) i 0 ≡ get_or (packed_words v) i 0
          zero_in_both o = packed_open w a i o ∙ sym (packed_open v b i (open_same (packed_words w) (packed_words v) i s o))

          go : Dec (get_or (packed_words w) i 0 ≡ get_or (packed_words v) i 0) → get_or (packed_words w) i 0 ≡ get_or (packed_words v) i 0
          go (yes e) = e
          go (no d) =
              words_fixed (packed_words w) (packed_words v) (packed_accepted w a) (packed_accepted v b) s
              (λ j q. packed_spare w j q ∙ sym (packed_spare v j q)) i l (λ o. d (zero_in_both o))

  pub same_agrees : packed_words w ≡ packed_words v → Agree (state_of w) (state_of v)
  same_agrees e = packed_agrees (state_of w) (state_of v) (sym (packed_state w a) ∙ ap state_of e ∙ packed_state v b)

  pub agrees_same : Agree (state_of w) (state_of v) → packed_words w ≡ packed_words v
  agrees_same g = one_state (packed_state w a ∙ agree_packed (state_of w) (state_of v) g (one_room w v n) ∙ sym (packed_state v b))

-- ---- what is packed holds what was lent

pub packed_holds : (w : List ℕ) → Accepted w → Agree (state_of (packed_words w)) (state_of w)
packed_holds w a = subst⁻¹ (λ s. Agree s (state_of w)) (packed_state w a) (packed_keeps (state_of w))

pub packed_twice : (w : List ℕ) → Accepted w → packed_words (packed_words w) ≡ packed_words w
packed_twice w a = agrees_same (packed_words w) w (packed_accepted w a) a (packed_size w a) (packed_holds w a)
