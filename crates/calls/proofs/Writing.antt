-- What the functions of src/written.rt write is the answer's words. Assumes nothing.
use Prim.Native.Nat.{ℕ, ◌<◌, ◌≤◌}
use mathlib.Core.Path.{◌≡◌, refl, sym, ap, ◌∙◌}
use mathlib.Core.Bool.{Bool, true, false}
use mathlib.Core.List.{[], ◌∷◌}
use mathlib.Core.Option.{Option}
use native.Mathlib.Omega.{arith}
use mir.Val.{bool_byte}
use Rattle.rules.specs.State.{Event}
use Rattle.event.specs.HandedIn.{side_of}
use Rattle.event.specs.Values.{known_event}
use Rattle.event.specs.Answers.{chosen_as}
use Rattle.event.specs.declared.SimEvent.{SimEvent}
use Rattle.event.proofs.Numbers.{event_known, event_unknown}
use Rattle.layout.proofs.Order.{rank_kind}
use Rattle.calls.specs.Answers.{flag_word, side_word, no_event, choice_words}

-- ---- one word

flag_is : (b : Bool) → bool_byte b ≡ flag_word b
flag_is true = refl
flag_is false = refl

side_is : (b : Bool) → bool_byte b ≡ side_word (side_of b)
side_is true = refl
side_is false = refl

-- ---- the words of an answer

pub event_none : (e : SimEvent) (rounds : ℕ) → 9 < e.kind.0 → (0 ∷ 0 ∷ no_event) ≡ choice_words (chosen_as (known_event e) rounds)
event_none e rounds l = ap (λ (o : Option Event). choice_words (chosen_as o rounds)) (sym (event_unknown e l))

pub event_is :
    (e : SimEvent) (rounds side padding bypass replace : ℕ) → e.kind.0 ≤ 9 → side ≡ bool_byte e.client
    → padding ≡ bool_byte e.padding → bypass ≡ bool_byte e.bypass → replace ≡ bool_byte e.replace
    → (1 ∷ rounds ∷ e.kind.0 ∷ e.moment.0 ∷ e.delay.0 ∷ side ∷ padding ∷ bypass ∷ replace ∷ e.machine ∷ []) ≡ choice_words (chosen_as (known_event e) rounds)
event_is e rounds side padding bypass replace l s p b r =
    (λ d.
    1 ∷ rounds ∷ sym (rank_kind e.kind.0 (omega arith)) d ∷ e.moment.0 ∷ e.delay.0 ∷ (s ∙ side_is e.client) d ∷ (p ∙ flag_is e.padding) d
    ∷ (b ∙ flag_is e.bypass) d ∷ (r ∙ flag_is e.replace) d ∷ e.machine ∷ [])
    ∙ ap (λ (o : Option Event). choice_words (chosen_as o rounds)) (sym (event_known e l))
