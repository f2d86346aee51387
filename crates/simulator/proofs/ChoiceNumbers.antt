-- The number of a choice before its rounds. Assumes nothing.
use Prim.Native.Nat.{ℕ, ◌<◌, ◌≤◌}
use mathlib.Core.Path.{◌≡◌, sym, ap, subst, subst⁻¹, ◌∙◌}
use mathlib.Core.Bool.{Bool}
use mathlib.Core.List.{List, [], ◌∷◌}
use mathlib.Core.Option.{Option, none}
use lib.Dec.{ltb}
use borrow.Author.Tests.{lt-ltb, le-ltb}
use lib.ListN.{take}
use Rattle.std.specs.Prelude.{Option as MaybeOption, Some, None, Result, MatchOption, IfOk}
use Rattle.event.specs.declared.answer.Reason.{Reason}
use Rattle.event.specs.declared.answer.Reason.TheVariants.{AboveLimit}
use Rattle.std.specs.Option.{ok_or}
use Rattle.moment.specs.declared.Moment.{Moment}
use Rattle.moment.specs.declared.Time.{Time}
use Rattle.rules.specs.Limits.{moment_limit}
use Rattle.rules.specs.Arguments.{pick_next}
use Rattle.rules.specs.Refusals.{first_of, table}
use Rattle.layout.specs.Layout.{state_from}
use Rattle.simulator.specs.Numbers.{Admits, Numbered, refused_with}
use Rattle.simulator.proofs.Rows.{going}
use Rattle.simulator.proofs.Reading.{not_ended}
use Rattle.simulator.proofs.Admitting.{admitted_going, admitted_number}

pub choice_number : (w : List ℕ) (now : ℕ) (o : Option ℕ) → Admits w none → o ≡ first_of ((7, ltb moment_limit now) ∷ []) → Numbered w (pick_next now) o
unfolding table
choice_number w now o a e =
    admitted_number w a (pick_next now) o (λ rs g. e ∙ going (state_from (take 256 w) rs) (pick_next now) (not_ended (take 256 w) rs (admitted_going w a)))

-- the row of a time, by whether it is within the limit
module _ (m : Moment) (r : Result Time Reason) where
  pub time_number : (o : MaybeOption Time) → MatchOption o (moment_limit < m.0) (λ t. t.at ≡ m) → r ≡ ok_or o AboveLimit → refused_with r ≡ first_of ((7, ltb moment_limit m.0) ∷ [])
  time_number None l e = ap refused_with e ∙ ap (λ (b : Bool). first_of ((7, b) ∷ [])) (sym (lt-ltb moment_limit m.0 l))
  time_number (Some t) q e = ap refused_with e ∙ ap (λ (b : Bool). first_of ((7, b) ∷ [])) (sym (le-ltb moment_limit m.0 (subst (λ (x : Moment). x.0 ≤ moment_limit) q t.within)))

  pub time_same : (o : MaybeOption Time) → MatchOption o (moment_limit < m.0) (λ t. t.at ≡ m) → r ≡ ok_or o AboveLimit → IfOk r (λ t. t.at ≡ m)
  time_same None l e = subst⁻¹ (λ (x : Result Time Reason). IfOk x (λ t. t.at ≡ m)) e tt
  time_same (Some t) q e = subst⁻¹ (λ (x : Result Time Reason). IfOk x (λ t. t.at ≡ m)) e q
