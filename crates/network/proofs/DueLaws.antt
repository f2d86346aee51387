-- Laws of the two aggregates of a delay. Assumes nothing.
use Prim.Native.Nat.{ℕ}
use mathlib.Core.Path.{◌≡◌, refl, sym, ap, ap₂, ◌∙◌}
use mathlib.Core.Bool.{Bool, true, false, ◌&&◌}
use mathlib.Core.List.{List, [], ◌∷◌, ◌++◌}
use mathlib.Core.Option.{some}
use Rattle.std.specs.Prelude.{Option, Some, None}
use lib.Dec.{leb}
use lib.ListN.{length}
use Rattle.rules.specs.Basics.{Side, client, server}
use Rattle.rules.specs.State.{Aggregate}
use Rattle.rules.specs.Limits.{moment_limit}
use Rattle.rules.specs.Aggregates.{aggregates_of}
use Rattle.rules.proofs.MomentCases.{cases_cover, cases_give}
use Rattle.rules.specs.ChoiceRound.{fits}
use Rattle.moment.specs.declared.Length.{Length}
use Rattle.moment.specs.declared.Moment.{Moment}
use Rattle.delay.specs.Tests.{delayed_of}
use Rattle.network.specs.declared.aggregate.TwoAggregates.{TwoAggregates}
use Rattle.network.specs.Due.{ByCases, both_of, moments}

-- ---- both

-- two aggregates of one length, by their moments
two : ℕ → ℕ → ℕ → List Aggregate
two len a b = record { moment = a; length = len; side = client } ∷ record { moment = b; length = len; side = server } ∷ []

pub both_due :
    (d at : ℕ) (len : Length) (a b : Moment) (z : Side) → ByCases z client d at len.0 a.0 → ByCases z server d at len.0 b.0
    → both_of (record { client = record { moment = a; length = len; client = true }; server = record { moment = b; length = len; client = false } }) ≡ aggregates_of d z at (some len.0)
unfolding two
both_due d at len a b z p q =
    let x = cases_cover z client d len.0 in
    let y = cases_cover z server d len.0 in
    ap₂ (two len.0) (p x.0 x.1) (q y.0 y.1) ∙ sym (cases_give d at len.0 z x.0 y.0 x.1 y.1)

-- ---- fit

pub and_one : (t : Bool) → t ≡ t && true
and_one true = refl
and_one false = refl

module _ (d at : ℕ) (z : Side) (by : Option Length) where
  pub fit_none : by ≡ None → true ≡ fits (moments (aggregates_of d z at (delayed_of by)))
  unfolding aggregates_of fits
  fit_none e = sym (ap (λ x. fits (moments (aggregates_of d z at (delayed_of x)))) e)

  module _ (len : Length) (e : by ≡ Some len) (b : TwoAggregates) (eb : both_of b ≡ aggregates_of d z at (some len.0)) (x : Bool) (ex : x ≡ leb b.client.moment.0 moment_limit) where
    fit_is : fits (moments (aggregates_of d z at (delayed_of by))) ≡ x && (leb b.server.moment.0 moment_limit && true)
    unfolding fits
    fit_is =
        ap (λ v. fits (moments (aggregates_of d z at (delayed_of v)))) e
        ∙ ap (λ l. fits (moments l)) (sym eb)
        ∙ ap (λ u. u && (leb b.server.moment.0 moment_limit && true)) (sym ex)

    pub fit_second : (y : Bool) → y ≡ leb b.server.moment.0 moment_limit → x ≡ true → y ≡ fits (moments (aggregates_of d z at (delayed_of by)))
    fit_second y ey t = ey ∙ and_one (leb b.server.moment.0 moment_limit) ∙ sym (fit_is ∙ ap (λ u. u && (leb b.server.moment.0 moment_limit && true)) t)

    pub fit_first : x ≡ false → x ≡ fits (moments (aggregates_of d z at (delayed_of by)))
    fit_first t = t ∙ sym (fit_is ∙ ap (λ u. u && (leb b.server.moment.0 moment_limit && true)) t)

-- ---- records_for

pub for_none : (by : Option Length) → by ≡ None → (d : ℕ) (z : Side) (at : ℕ) → 0 ≡ length (aggregates_of d z at (delayed_of by))
unfolding aggregates_of
for_none by e d z at = sym (ap (λ x. length (aggregates_of d z at (delayed_of x))) e)

two_long : (d : ℕ) (z : Side) (at len : ℕ) → length (aggregates_of d z at (some len)) ≡ 2
unfolding aggregates_of
two_long d client at len = refl
two_long d server at len = refl

pub for_two : (by : Option Length) (len : Length) → by ≡ Some len → (d : ℕ) (z : Side) (at : ℕ) → 2 ≡ length (aggregates_of d z at (delayed_of by))
for_two by len e d z at = sym (ap (λ x. length (aggregates_of d z at (delayed_of x))) e ∙ two_long d z at len.0)

-- ---- sums in a row

pub fits_append : (a b : List ℕ) → fits (a ++ b) ≡ fits a && fits b
unfolding fits
fits_append [] b = refl
fits_append (n ∷ a) b = go (leb n moment_limit) (fits_append a b)
  where
    go : (t : Bool) → fits (a ++ b) ≡ fits a && fits b → t && fits (a ++ b) ≡ (t && fits a) && fits b
    go true e = e
    go false e = refl

-- by whether the first fit, and the others
module _ (one more : List ℕ) (a : Bool) (ea : a ≡ fits one) where
  pub fits_then : (b : Bool) → b ≡ fits more → a ≡ true → b ≡ fits (one ++ more)
  fits_then b eb t = eb ∙ ap (λ x. x && fits more) (sym t ∙ ea) ∙ sym (fits_append one more)

  pub fits_else : a ≡ false → a ≡ fits (one ++ more)
  fits_else t = t ∙ ap (λ x. x && fits more) (sym t ∙ ea) ∙ sym (fits_append one more)
