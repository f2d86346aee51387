-- The words of a side's block, as the state has them. Assumes nothing.
use Prim.Native.Nat.{ℕ, zero, suc, ◌+◌, ◌≤◌}
use mathlib.Core.Path.{◌≡◌, refl, sym, ap, ◌∙◌}
use mathlib.Core.Bool.{Bool, true, false, not}
use mathlib.Core.List.{List}
use mathlib.Core.Option.{some}
use native.Mathlib.Omega.{arith}
use lib.ListN.{get_or}
use borrow.Author.Tests.{ne_eqb}
use Rattle.std.specs.Prelude.{nat_eq, Option, Some, None, MatchOption}
use Rattle.moment.specs.declared.Moment.{Moment}
use Rattle.queue.specs.Views.{moment_no}
use Rattle.rules.specs.State.{side}
use Rattle.rules.specs.Limits.{duration_limit}
use Rattle.event.specs.HandedIn.{side_of}
use Rattle.queue_event.specs.Tag.{flag}
use Rattle.layout.specs.Header.{Limited}
use Rattle.layout.specs.Layout.{less_one, bank, state_from}
use Rattle.layout.specs.Changes.{side_no}

pub block_held : (h rs : List ℕ) (b : Bool) → (side (state_from h rs) (side_of b)).block_end ≡ less_one (get_or h (12 + side_no (side_of b)) 0)
unfolding state_from bank
block_held h rs true = refl
block_held h rs false = refl

pub flag_held : (h rs : List ℕ) (b : Bool) → (side (state_from h rs) (side_of b)).block_bypassable ≡ flag (get_or h (14 + side_no (side_of b)) 0)
unfolding state_from bank
flag_held h rs true = refl
flag_held h rs false = refl

pub action_held : (h rs : List ℕ) (b : Bool) → (side (state_from h rs) (side_of b)).fixed.action_delay ≡ get_or h (4 + side_no (side_of b)) 0
unfolding state_from bank
action_held h rs true = refl
action_held h rs false = refl

pub reporting_held : (h rs : List ℕ) (b : Bool) → (side (state_from h rs) (side_of b)).fixed.reporting_delay ≡ get_or h (6 + side_no (side_of b)) 0
unfolding state_from bank
reporting_held h rs true = refl
reporting_held h rs false = refl

pub network_held : (h rs : List ℕ) → (state_from h rs).settings.network_delay ≡ get_or h 0 0
unfolding state_from bank
network_held h rs = refl

pub window_held : (h rs : List ℕ) → (state_from h rs).settings.window ≡ get_or h 3 0
unfolding state_from bank
window_held h rs = refl

-- those words within their limit
pub network_within : (h : List ℕ) → Limited h → get_or h 0 0 ≤ duration_limit
network_within h l = l 0 (omega arith)

pub window_within : (h : List ℕ) → Limited h → get_or h 3 0 ≤ duration_limit
window_within h l = l 3 (omega arith)

pub action_within : (h : List ℕ) (b : Bool) (w : ℕ) → Limited h → w ≡ get_or h (4 + side_no (side_of b)) 0 → w ≤ duration_limit
action_within h true w l e = rw e (l 4 (omega arith))
action_within h false w l e = rw e (l 5 (omega arith))

pub reporting_within : (h : List ℕ) (b : Bool) (w : ℕ) → Limited h → w ≡ get_or h (6 + side_no (side_of b)) 0 → w ≤ duration_limit
reporting_within h true w l e = rw e (l 6 (omega arith))
reporting_within h false w l e = rw e (l 7 (omega arith))

flag_set : (n : ℕ) → not (nat_eq n 0) ≡ flag n
flag_set zero = refl
flag_set (suc n) = ap not (ne_eqb (suc n) 0 (λ e. omega arith))

-- a word that holds a moment as one more, or 0 for none
pub stored_moment : (w : ℕ) (r : Option Moment) → MatchOption r (w ≡ 0) (λ m. m.0 + 1 ≡ w) → moment_no r ≡ less_one w
stored_moment w None e = sym (ap less_one e)
stored_moment w (Some m) e = go m.0 w e
  where
    go : (n k : ℕ) → n + 1 ≡ k → some n ≡ less_one k
    go n zero q = absurd (omega (arith, q))
    go n (suc k) q = let x : n ≡ k = omega (arith, q) in ap some x

module _ (h rs : List ℕ) (b : Bool) (w : ℕ) where
  pub its_end : (r : Option Moment) → w ≡ get_or h (12 + side_no (side_of b)) 0 → MatchOption r (w ≡ 0) (λ m. m.0 + 1 ≡ w) → moment_no r ≡ (side (state_from h rs) (side_of b)).block_end
  its_end r e m = stored_moment w r m ∙ ap less_one e ∙ sym (block_held h rs b)

  pub bypassable : w ≡ get_or h (14 + side_no (side_of b)) 0 → not (nat_eq w 0) ≡ (side (state_from h rs) (side_of b)).block_bypassable
  bypassable e = flag_set w ∙ ap flag e ∙ sym (flag_held h rs b)
