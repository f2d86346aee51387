-- The rows of a refusal table, one after another, on any state. Assumes nothing.
use Prim.Native.Nat.{ℕ}
use mathlib.Core.Path.{◌≡◌, refl, sym, ap}
use mathlib.Core.Bool.{Bool, true, false}
use mathlib.Core.List.{List, [], ◌∷◌, ◌++◌, tail}
use mathlib.Core.Option.{none, some, none-ne-some, some-ne-none}
use Rattle.std.specs.Prelude.{if◌then◌else◌}
use Rattle.rules.specs.State.{State}
use Rattle.rules.specs.Arguments.{Call, push, set_action, clear_action, set_timer, clear_timer, pick_next, sim_network_stack}
use Rattle.rules.specs.Refusals.{first_of, refusal, table}
use Rattle.laws.specs.CallRuns.{AllFalse, none_met}

-- rows in front of others: the number that they give is the number of all, and where they give none the others speak
pub front_yes : (a b : List (ℕ × Bool)) (n : ℕ) → some n ≡ first_of a → some n ≡ first_of (a ++ b)
front_yes [] b n e = absurd (some-ne-none n e)
front_yes ((m, true) ∷ a) b n e = e
front_yes ((m, false) ∷ a) b n e = front_yes a b n e

pub front_no : (a b : List (ℕ × Bool)) → none ≡ first_of a → first_of b ≡ first_of (a ++ b)
front_no [] b e = refl
front_no ((m, true) ∷ a) b e = absurd (none-ne-some m e)
front_no ((m, false) ∷ a) b e = front_no a b e

-- rows that give no number do not hold
pub all_false : (l : List (ℕ × Bool)) → none ≡ first_of l → AllFalse l
all_false l e = none_met l (sym e)

-- the last row of a table; docs/PORT.md names it
pub last_row_lem : (n : ℕ) (t b : Bool) → t ≡ b → (if b then some n else none) ≡ first_of ((n, t) ∷ [])
last_row_lem n t true e = ap (λ (x : Bool). first_of ((n, x) ∷ [])) (sym e)
last_row_lem n t false e = ap (λ (x : Bool). first_of ((n, x) ∷ [])) (sym e)

-- row 3 does not hold of a state that is not ended
past : (t : Bool) (l : List (ℕ × Bool)) → t ≡ false → first_of l ≡ first_of ((3, t) ∷ l)
past t l e = ap (λ (x : Bool). first_of ((3, x) ∷ l)) (sym e)

pub going : (s : State) (c : Call) → s.ended ≡ false → first_of (tail (table s c)) ≡ refusal s c
unfolding refusal table
going s (push r) e = past s.ended (tail (table s (push r))) e
going s (set_action z r) e = past s.ended (tail (table s (set_action z r))) e
going s (clear_action z) e = past s.ended (tail (table s (clear_action z))) e
going s (set_timer z t) e = past s.ended (tail (table s (set_timer z t))) e
going s (clear_timer z) e = past s.ended (tail (table s (clear_timer z))) e
going s (pick_next now) e = past s.ended (tail (table s (pick_next now))) e
going s (sim_network_stack now r) e = past s.ended (tail (table s (sim_network_stack now r))) e

-- and refuses one that is
pub ended_three : (s : State) (c : Call) → s.ended ≡ true → some 3 ≡ refusal s c
unfolding refusal table
ended_three s c e = go c
  where
    here : (l : List (ℕ × Bool)) → some 3 ≡ first_of ((3, s.ended) ∷ l)
    here l = ap (λ (x : Bool). first_of ((3, x) ∷ l)) (sym e)

    go : (c : Call) → some 3 ≡ refusal s c
    go (push r) = here (tail (table s (push r)))
    go (set_action z r) = here (tail (table s (set_action z r)))
    go (clear_action z) = here (tail (table s (clear_action z)))
    go (set_timer z t) = here (tail (table s (set_timer z t)))
    go (clear_timer z) = here (tail (table s (clear_timer z)))
    go (pick_next now) = here (tail (table s (pick_next now)))
    go (sim_network_stack now r) = here (tail (table s (sim_network_stack now r)))
