-- Laws of the aggregates of a delay that join the pending ones. Assumes nothing.
use Prim.Native.Nat.{ℕ, ◌-◌, ◌≤◌}
use mathlib.Core.Path.{◌≡◌, refl, sym, ap, ◌∙◌}
use mathlib.Core.List.{List, [], ◌∷◌, tail}
use mathlib.Core.Option.{some}
use native.Mathlib.Omega.{arith}
use lib.ListN.{length}
use Rattle.rules.specs.Basics.{Side}
use Rattle.rules.specs.State.{Aggregate, State}
use Rattle.rules.specs.Aggregates.{add_aggregate, add_aggregates, aggregates_of}
use Rattle.moment.specs.declared.Length.{Length}
use Rattle.event.specs.HandedIn.{aggregate_in}
use Rattle.layout.specs.Layout.{state_of}
use Rattle.queue.specs.Changes.{Leaves, count_in}
use Rattle.queue.specs.Pushes.{MayAdd}
use Rattle.std.specs.Prelude.{Option, Some, None}
use Rattle.delay.specs.Tests.{delayed_of}
use Rattle.queue.proofs.Sizes.{free_length, leaves_then}
use Rattle.network.specs.declared.aggregate.TwoAggregates.{TwoAggregates}
use Rattle.network.specs.Due.{both_of, MayAggregate}

-- ---- each takes a free record

tail_length : {A : Type 0} (l : List A) → length (tail l) ≡ length l - 1
tail_length [] = refl
tail_length (x ∷ l) = omega arith

add_free : (s : State) (a : Aggregate) → length (add_aggregate s a).free ≡ length s.free - 1
unfolding add_aggregate
add_free s a = tail_length s.free

pub adds_free : (s : State) (new : List Aggregate) → length (add_aggregates s new).free ≡ length s.free - length new
unfolding add_aggregates
adds_free s [] = omega arith
adds_free s (a ∷ new) = omega (arith, adds_free (add_aggregate s a) new, add_free s a)

-- ---- no delay

module _ (w : List ℕ) (d at : ℕ) (z : Side) (by : Option Length) (may : MayAggregate w d z at (delayed_of by)) where
  pub delay_none : by ≡ None → Leaves w w (add_aggregates (state_of w) (aggregates_of d z at (delayed_of by)))
  unfolding add_aggregates aggregates_of
  delay_none e =
      record { shaped = may.shaped; state = sym (ap (λ x. add_aggregates (state_of w) (aggregates_of d z at (delayed_of x))) e); size = refl; beside = λ i l o. refl }

  -- ---- a delay: two aggregates

  module _ (len : Length) (e : by ≡ Some len) (b : TwoAggregates) (eb : both_of b ≡ aggregates_of d z at (some len.0)) where
    are : both_of b ≡ aggregates_of d z at (delayed_of by)
    are = eb ∙ sym (ap (λ x. aggregates_of d z at (delayed_of x)) e)

    two_free : 2 ≤ count_in w 0
    two_free = omega (arith, may.free, ap length are)

    module _ (v : List ℕ) (one : Leaves w v (add_aggregate (state_of w) (aggregate_in b.client))) where
      one_less : count_in v 0 ≡ count_in w 0 - 1
      one_less =
          sym (free_length v) ∙ ap (λ s. length s.free) one.state ∙ add_free (state_of w) (aggregate_in b.client) ∙ ap (λ n. n - 1) (free_length w)

      pub second_may : MayAdd v
      second_may = record { shaped = one.shaped; free = omega (arith, two_free, one_less) }

      pub delay_two : (left : List ℕ) → Leaves v left (add_aggregate (state_of v) (aggregate_in b.server)) → Leaves w left (add_aggregates (state_of w) (aggregates_of d z at (delayed_of by)))
      unfolding add_aggregates
      delay_two left two =
          leaves_then w v left _ _ one
          (record {
            shaped = two.shaped;
            state = two.state ∙ ap (λ s. add_aggregate s (aggregate_in b.server)) one.state ∙ ap (add_aggregates (state_of w)) are;
            size = two.size;
            beside = two.beside;
          })
