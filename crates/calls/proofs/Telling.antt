-- The promise of a call with numbers, from that of the call which it makes. Assumes nothing.
use Prim.Native.Nat.{ℕ}
use mathlib.Core.Path.{◌≡◌, refl, ap, subst, ◌∙◌}
use mathlib.Core.Bool.{Bool, true, false}
use mathlib.Core.List.{List}
use Rattle.std.specs.Prelude.{Result, Ok, Err, if◌then◌else◌}
use Rattle.rules.specs.Basics.{client, server}
use Rattle.rules.specs.Arguments.{Call, ActionIn}
use Rattle.event.specs.HandedIn.{side_of}
use Rattle.event.specs.Answers.{answer_of}
use Rattle.event.specs.declared.answer.Refusal.{Refusal}
use Rattle.simulator.specs.Outcome.{Outcome}
use Rattle.calls.specs.Told.{is_set, side_for, event_for, action_for, number_in, code_in, Told}

-- ---- the number of an answer

pub answer_code : (a : Result Unit Refusal) → code_in a ≡ number_in (answer_of a)
answer_code (Ok u) = refl
answer_code (Err r) = refl

pub told : (w : List ℕ) (c d : Call) (n : ℕ) (a : Result Unit Refusal) (left : List ℕ) → c ≡ d → Outcome w c (answer_of a) left → n ≡ code_in a → Told w d n left
told w c d n a left e o q = record { answer = answer_of a; outcome = subst (λ (x : Call). Outcome w x (answer_of a) left) e o; number = q ∙ answer_code a }

-- ---- numbers taken as an event and as an action; docs/PORT.md names all three lemmas

pub event_words_lem :
    (k m d s p b q x k' m' d' s' p' b' q' x' : ℕ) → k ≡ k' → m ≡ m' → d ≡ d' → s ≡ s' → p ≡ p' → b ≡ b' → q ≡ q' → x ≡ x'
    → event_for k m d s p b q x ≡ event_for k' m' d' s' p' b' q' x'
event_words_lem k m d s p b q x k' m' d' s' p' b' q' x' e1 e2 e3 e4 e5 e6 e7 e8 =
    λ i. event_for (e1 i) (e2 i) (e3 i) (e4 i) (e5 i) (e6 i) (e7 i) (e8 i)

side_is : (b : Bool) (n : ℕ) → b ≡ is_set n → side_of b ≡ side_for n
side_is b n e = ap side_of e ∙ go (is_set n)
  where
    go : (c : Bool) → side_of c ≡ (if c then client else server)
    go true = refl
    go false = refl

module _ (z : Bool) (side machine : ℕ) (e : z ≡ is_set side) where
  pub event_in_lem :
      (kind moment delay padding bypass replace : ℕ) (p b r : Bool) → p ≡ is_set padding → b ≡ is_set bypass → r ≡ is_set replace
      → record { kind = kind; moment = moment; delay = delay; side = side_of z; padding = p; bypass = b; replace = r; machine = machine }
      ≡ event_for kind moment delay side padding bypass replace machine
  event_in_lem kind moment delay padding bypass replace p b r ep eb er =
      λ d. record { kind = kind; moment = moment; delay = delay; side = side_is z side e d; padding = ep d; bypass = eb d; replace = er d; machine = machine }

pub action_in_lem :
    (kind moment duration bypass replace : ℕ) (b r : Bool) → b ≡ is_set bypass → r ≡ is_set replace
    → record { kind = kind; moment = moment; duration = duration; bypass = b; replace = r } ≡ action_for kind moment duration bypass replace
action_in_lem kind moment duration bypass replace b r eb er = λ d. record { kind = kind; moment = moment; duration = duration; bypass = eb d; replace = er d }
