-- The rows of a network step up to 8. Assumes nothing.
use Prim.Native.Nat.{ℕ}
use mathlib.Core.Path.{◌≡◌, refl, ◌∙◌}
use mathlib.Core.Bool.{Bool, true, false}
use mathlib.Core.List.{List, [], ◌∷◌, ◌++◌}
use mathlib.Core.Logic.{inl, inr}
use mathlib.Core.Option.{Option, none, some, none-ne-some, some-ne-none}
use lib.ListN.{take, drop}
use Rattle.std.specs.Prelude.{if◌then◌else◌}
use Rattle.rules.specs.Basics.{kind_of}
use Rattle.rules.specs.State.{State}
use Rattle.rules.specs.Arguments.{EventIn, sim_network_stack}
use Rattle.rules.specs.Effects.{after_step}
use Rattle.rules.specs.Refusals.{first_of, full, refusal, table}
use Rattle.layout.specs.Layout.{state_of}
use Rattle.simulator.specs.Numbers.{Admits, Numbered}
use Rattle.simulator.specs.StepNumbers.{step_rows, StepNumber, UpToEight}
use Rattle.simulator.proofs.Rows.{front_yes, going, ended_three}
use Rattle.simulator.proofs.Admitting.{admitted, mark}

-- ---- on lent words

ended_n : (n : ℕ) (m : Option ℕ) (b : Bool) → some n ≡ (if b then some 3 else none) → some n ≡ (if b then some 3 else m)
ended_n n m true e = e
ended_n n m false e = absurd (some-ne-none n e)

pub upto_n : (w : List ℕ) (now : ℕ) (r : EventIn) (n : ℕ) → Admits w (some n) → UpToEight w now r (some n)
upto_n w now r n (inl x) = inl x
upto_n w now r n (inr (inl x)) = inr (inl x)
upto_n w now r n (inr (inr (acc, e))) = inr (inr (acc, ended_n n (first_of (step_rows (state_of w) now r)) (state_of w).ended e))

going_on : (m : Option ℕ) (b : Bool) → ◌≡◌ {A = Option ℕ} none (if b then some 3 else none) → m ≡ (if b then some 3 else m)
going_on m true e = absurd (none-ne-some 3 e)
going_on m false e = refl

pub upto_rows : (w : List ℕ) (now : ℕ) (r : EventIn) (o : Option ℕ) → Admits w none → StepNumber (take 256 w) now r o → UpToEight w now r o
upto_rows w now r o a e =
    inr (inr (admitted w a, e (drop 256 w) ∙ going_on (first_of (step_rows (state_of w) now r)) (state_of w).ended (mark w a)))

-- ---- the whole table: row 9 is the last

abbrev pub nine_of : State → ℕ → EventIn → List (ℕ × Bool)
nine_of s now r = (9, full (after_step s now r (kind_of r.kind)).state) ∷ []

pub whole : (s : State) (now : ℕ) (r : EventIn) → s.ended ≡ false → first_of (step_rows s now r ++ nine_of s now r) ≡ refusal s (sim_network_stack now r)
unfolding table
whole s now r e = going s (sim_network_stack now r) e

by_ended : (s : State) (now : ℕ) (r : EventIn) (n : ℕ) (b : Bool) → s.ended ≡ b → some n ≡ (if b then some 3 else first_of (step_rows s now r)) → some n ≡ refusal s (sim_network_stack now r)
by_ended s now r n true q e = e ∙ ended_three s (sim_network_stack now r) q
by_ended s now r n false q e = front_yes (step_rows s now r) (nine_of s now r) n e ∙ whole s now r q

pub step_numbered : (w : List ℕ) (now : ℕ) (r : EventIn) (n : ℕ) → UpToEight w now r (some n) → Numbered w (sim_network_stack now r) (some n)
step_numbered w now r n (inl x) = inl x
step_numbered w now r n (inr (inl x)) = inr (inl x)
step_numbered w now r n (inr (inr (acc, e))) = inr (inr (acc, by_ended (state_of w) now r n (state_of w).ended refl e))
