-- The tests of a round, and the first that fits. Assumes nothing.
use Prim.Native.Nat.{ℕ, ◌+◌}
use mathlib.Core.Path.{◌≡◌, refl, sym, ap, subst⁻¹, ◌∙◌}
use mathlib.Core.Bool.{Bool, true, false, ◌&&◌}
use mathlib.Core.List.{List, head?}
use mathlib.Core.Option.{Option as RulesOption, none, some}
use Rattle.std.specs.Prelude.{if◌then◌else◌, Option, Some, None}
use Rattle.rules.specs.Basics.{after, absent, Delay, ◌≤ᵈ◌}
use Rattle.rules.specs.State.{State}
use Rattle.rules.specs.ChoiceHeads.{Head}
use Rattle.rules.specs.ChoiceDelays.{Delays as RulesDelays, delays, offered, next_block}
use Rattle.rules.specs.ChoiceRound.{Slot, Candidate as RulesCandidate, candidate, first_fitting, aggregate_first, block_first, event_first, timer_first, or_none, an_aggregate, a_block, an_event, a_timer, an_action, none_left, timer_slot, action_slot, action_from, action_in, due_timer, due_action}
use Rattle.layout.specs.Layout.{state_from}
use Rattle.queue.specs.Heads.{PeekedBoth}
use Rattle.moment.specs.declared.Length.{Length}
use Rattle.queue_peek.specs.declared.five.Delays.{Delays}
use Rattle.queue_peek.specs.Decoded.{delay_of, delays_of}
use Rattle.candidate.specs.declared.Candidate.{Candidate}
use Rattle.candidate.specs.declared.Candidate.TheVariants.{Aggregate, Block, Event, Timer, Action as TheAction}
use Rattle.candidate.specs.Candidates.{candidate_of, next_of, Reckoned, NextReckoned}
use Rattle.candidate.specs.Promises.{Picked, TakenUp, later_fitting}
use Rattle.candidate.proofs.PickLaws.{moved}

-- ---- the tests

-- a && b, where b is asked, and where it is not
module _ (a x y : Bool) (ex : a ≡ x) where
  pub both_then : (b : Bool) → a ≡ true → b ≡ y → b ≡ (x && y)
  both_then b e ey = ey ∙ ap (λ i. i && y) (sym e ∙ ex)

  pub both_else : a ≡ false → a ≡ (x && y)
  both_else e = e ∙ ap (λ i. i && y) (sym e ∙ ex)

module _ (d : Delays) where
  -- a delay is not above the first two of the rest, or the first three
  abbrev pub before_two : Option Length → Bool
  before_two l = (delay_of l ≤ᵈ delay_of d.s) && (delay_of l ≤ᵈ delay_of d.i)

  abbrev pub before_three : Option Length → Bool
  before_three l = before_two l && (delay_of l ≤ᵈ delay_of d.b)

  pub aggregate_goes : (before_three d.n && (delay_of d.n ≤ᵈ delay_of d.q)) ≡ aggregate_first (delays_of d)
  unfolding delays_of
  aggregate_goes = refl

  pub block_goes : (before_two d.b && (delay_of d.b ≤ᵈ delay_of d.q)) ≡ block_first (delays_of d)
  unfolding delays_of
  block_goes = refl

  pub event_goes : before_two d.q ≡ event_first (delays_of d)
  unfolding delays_of
  event_goes = refl

-- ---- what is no block's end has nothing reckoned

unfoldable OtherThanBlock : RulesCandidate → Type 0
OtherThanBlock (an_aggregate a) = Unit {0}
OtherThanBlock (a_block k) = ⊥
OtherThanBlock (an_event x) = Unit {0}
OtherThanBlock (a_timer z m) = Unit {0}
OtherThanBlock (an_action z a) = Unit {0}
OtherThanBlock none_left = Unit {0}

none_reckoned : (h rs : List ℕ) (t : ℕ) (r : Option Candidate) (c : RulesCandidate) → next_of h r ≡ c → OtherThanBlock c → NextReckoned h rs t r
unfolding OtherThanBlock next_of candidate_of NextReckoned Reckoned
none_reckoned h rs t (Some (Aggregate a)) c e o = tt
none_reckoned h rs t (Some (Block k by)) c e o = absurd (subst⁻¹ OtherThanBlock e o)
none_reckoned h rs t (Some (Event x)) c e o = tt
none_reckoned h rs t (Some (Timer z)) c e o = tt
none_reckoned h rs t (Some (TheAction p)) c e o = tt
none_reckoned h rs t None c e o = tt

or_other : {A : Type 0} (f : A → RulesCandidate) → ((a : A) → OtherThanBlock (f a)) → (o : RulesOption A) → OtherThanBlock (or_none f o)
unfolding OtherThanBlock
or_other f p none = tt
or_other f p (some a) = p a

if_other : (b : Bool) (c x : RulesCandidate) → OtherThanBlock c → OtherThanBlock x → OtherThanBlock (if b then c else x)
if_other true c x p q = p
if_other false c x p q = q

timer_other : (s : State) (t : ℕ) (i : Delay) → OtherThanBlock (due_timer s t i)
unfolding OtherThanBlock
timer_other s t absent = tt
timer_other s t (after l) = or_other (λ (z : Slot). a_timer z (t + l)) (λ z. tt) (timer_slot s (t + l))

action_other : (s : State) (t : ℕ) (i : Delay) → OtherThanBlock (due_action s t i)
unfolding OtherThanBlock
action_other s t absent = tt
action_other s t (after l) = or_other (action_from s) (λ z. or_other (an_action z) (λ a. tt) (action_in s z)) (action_slot s (t + l))

later_other : (s : State) (t : ℕ) (d : RulesDelays) → OtherThanBlock (later_fitting s t d)
unfolding OtherThanBlock
later_other s t d =
    if_other (event_first d) _ _ (or_other an_event (λ x. tt) (offered s t)) (if_other (timer_first d) _ _ (timer_other s t d.i) (action_other s t d.s))

-- ---- the first that fits

chose_1 : {A : Type 0} (b : Bool) (x y : A) → b ≡ true → x ≡ (if b then x else y)
chose_1 b x y e = sym (ap (λ (c : Bool). if c then x else y) e)

chose_2 : {A : Type 0} (b : Bool) (x y : A) → b ≡ false → y ≡ (if b then x else y)
chose_2 b x y e = sym (ap (λ (c : Bool). if c then x else y) e)

pub later_event :
    (h rs : List ℕ) (t : ℕ) (d : Delays) (r : Option Candidate) (x : Bool) → x ≡ event_first (delays_of d) → x ≡ true → PeekedBoth h rs d.found (offered (state_from h rs) t)
    → ((g qs : List ℕ) (o : RulesOption Head) → PeekedBoth g qs d.found o → Picked g qs r (or_none an_event o)) → Picked h rs r (later_fitting (state_from h rs) t (delays_of d))
later_event h rs t d r x ex e p q = moved h rs r _ _ (q h rs _ p) (chose_1 (event_first (delays_of d)) _ _ (sym ex ∙ e))

module _ (h rs : List ℕ) (t : ℕ) (d : Delays) (r : Option Candidate) where
  module _ (x : Bool) (ex : x ≡ event_first (delays_of d)) where
    module _ (y : Bool) (e : x ≡ false) (ey : y ≡ (delay_of d.i ≤ᵈ delay_of d.s)) where
      pub later_timer : y ≡ true → Picked h rs r (due_timer (state_from h rs) t (delay_of d.i)) → Picked h rs r (later_fitting (state_from h rs) t (delays_of d))
      unfolding delays_of
      later_timer f p =
          moved h rs r _ _ p (chose_1 (delay_of d.i ≤ᵈ delay_of d.s) _ _ (sym ey ∙ f) ∙ chose_2 (event_first (delays_of d)) (or_none an_event (offered (state_from h rs) t)) _ (sym ex ∙ e))

      pub later_action : y ≡ false → Picked h rs r (due_action (state_from h rs) t (delay_of d.s)) → Picked h rs r (later_fitting (state_from h rs) t (delays_of d))
      unfolding delays_of
      later_action f p =
          moved h rs r _ _ p (chose_2 (delay_of d.i ≤ᵈ delay_of d.s) _ _ (sym ey ∙ f) ∙ chose_2 (event_first (delays_of d)) (or_none an_event (offered (state_from h rs) t)) _ (sym ex ∙ e))

  module _ (ed : delays_of d ≡ delays (state_from h rs) t) (x : Bool) (ex : x ≡ aggregate_first (delays_of d)) where
    fitting_is : first_fitting (state_from h rs) t (delays_of d) ≡ candidate (state_from h rs) t
    unfolding candidate
    fitting_is = ap (first_fitting (state_from h rs) t) ed

    pub first_aggregate : x ≡ true → Picked h rs r (or_none an_aggregate (head? (state_from h rs).aggregates)) → TakenUp h rs t r (candidate (state_from h rs) t)
    unfolding OtherThanBlock
    first_aggregate e p = record {
      picked = moved h rs r _ _ p (chose_1 (aggregate_first (delays_of d)) _ _ (sym ex ∙ e) ∙ fitting_is);
      reckoned = none_reckoned h rs t r _ p.is (or_other an_aggregate (λ a. tt) (head? (state_from h rs).aggregates));
    }

    module _ (y : Bool) (e : x ≡ false) (ey : y ≡ block_first (delays_of d)) where
      pub first_block_lem : y ≡ true → TakenUp h rs t r (or_none a_block (next_block (state_from h rs))) → TakenUp h rs t r (candidate (state_from h rs) t)
      first_block_lem f p = record {
        picked =
            moved h rs r _ _ p.picked (chose_1 (block_first (delays_of d)) _ _ (sym ey ∙ f) ∙ chose_2 (aggregate_first (delays_of d)) (or_none an_aggregate (head? (state_from h rs).aggregates)) _ (sym ex ∙ e) ∙ fitting_is);
        reckoned = p.reckoned;
      }

      pub first_later : y ≡ false → Picked h rs r (later_fitting (state_from h rs) t (delays_of d)) → TakenUp h rs t r (candidate (state_from h rs) t)
      first_later f p = record {
        picked =
            moved h rs r _ _ p (chose_2 (block_first (delays_of d)) (or_none a_block (next_block (state_from h rs))) _ (sym ey ∙ f) ∙ chose_2 (aggregate_first (delays_of d)) (or_none an_aggregate (head? (state_from h rs).aggregates)) _ (sym ex ∙ e) ∙ fitting_is);
        reckoned = none_reckoned h rs t r _ p.is (later_other (state_from h rs) t (delays_of d));
      }
