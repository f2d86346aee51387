-- The promise of a call from what its code has: the number that refuses it, or its work. Assumes nothing.
use Prim.Native.Nat.{ℕ}
use mathlib.Core.Path.{◌≡◌, refl, sym, ap, subst, ◌∙◌}
use mathlib.Core.List.{List}
use mathlib.Core.Logic.{inl, inr}
use mathlib.Core.Option.{Option, none, some, none-ne-some, some-injective}
use lib.ListN.{length, get_or}
use Rattle.rules.specs.State.{State}
use Rattle.rules.specs.Choice.{Answer, refused as refused_as}
use Rattle.rules.specs.Arguments.{Call, EventIn, sim_network_stack}
use Rattle.rules.specs.Calls.{call, work, unless_refused}
use Rattle.rules.specs.Refusals.{refusal}
use Rattle.layout.specs.Accepted.{Accepted}
use Rattle.layout.specs.Spare.{Spare}
use Rattle.layout.specs.Layout.{state_of}
use Rattle.simulator.specs.Outcome.{Outcome, Left, FreeRecords}
use Rattle.simulator.specs.Numbers.{Numbered}

-- ---- the promise of a refusal

-- accepted words have their free records in one chain
module _ (frees : (w : List ℕ) → Accepted w → FreeRecords w) where
  unchanged : (w : List ℕ) → Accepted w → Left w (state_of w) w
  unchanged w a = record { accepted = a; state = refl; spare = λ i s. refl; size = refl; free = frees w a }

  by_row : (w : List ℕ) (c : Call) (n : ℕ) → Accepted w → refusal (state_of w) c ≡ some n → Outcome w c (refused_as n 0) w
  unfolding call
  by_row w c n acc e =
      record {
        bad_length = λ s. absurd (s acc.size);
        bad = λ s b. absurd (b acc);
        answer = λ a. sym (ap (λ (o : Option ℕ). (unless_refused o (state_of w) (work (state_of w) c)).answer) e);
        state = λ a. subst (λ (s : State). Left w s w) (sym (ap (λ (o : Option ℕ). (unless_refused o (state_of w) (work (state_of w) c)).state) e)) (unchanged w a);
        kept = λ a k r. refl;
        ten = λ a now ev f t i j. refl;
      }

  pub by_number : (w : List ℕ) (c : Call) (n : ℕ) → Numbered w c (some n) → Outcome w c (refused_as n 0) w
  by_number w c n (inl (bad, e)) =
      record {
        bad_length = λ _. (ap (λ (x : ℕ). refused_as x 0) (some-injective n 1 e), refl);
        bad = λ s b. absurd (bad s);
        answer = λ a. absurd (bad a.size);
        state = λ a. absurd (bad a.size);
        kept = λ a. absurd (bad a.size);
        ten = λ a. absurd (bad a.size);
      }
  by_number w c n (inr (inl (size, (bad, e)))) =
      record {
        bad_length = λ s. absurd (s size);
        bad = λ _ _. (ap (λ (x : ℕ). refused_as x 0) (some-injective n 2 e), refl);
        answer = λ a. absurd (bad a);
        state = λ a. absurd (bad a);
        kept = λ a. absurd (bad a);
        ten = λ a. absurd (bad a);
      }
  by_number w c n (inr (inr (acc, e))) = by_row w c n acc (sym e)

  -- ---- the promise of the work

  pub record Worked (w : List ℕ) (c : Call) (a : Answer) (left : List ℕ) : Type 0 where
    pub accepted : Accepted left
    pub answer : a ≡ (work (state_of w) c).answer
    pub state : state_of left ≡ (work (state_of w) c).state
    pub spare : (i : ℕ) → Spare i → get_or left i 0 ≡ get_or w i 0
    pub size : length left ≡ length w
    pub ten : (now : ℕ) (e : EventIn) → c ≡ sim_network_stack now e → a ≡ refused_as 10 0 → (i : ℕ) → (i ≡ 16 → ⊥) → get_or left i 0 ≡ get_or w i 0

  pub by_work : (w : List ℕ) (c : Call) (a : Answer) (left : List ℕ) → Accepted w → refusal (state_of w) c ≡ none → Worked w c a left → Outcome w c a left
  unfolding call
  by_work w c a left acc e k =
      record {
        bad_length = λ s. absurd (s acc.size);
        bad = λ s b. absurd (b acc);
        answer = λ _. k.answer ∙ sym (ap (λ (o : Option ℕ). (unless_refused o (state_of w) (work (state_of w) c)).answer) e);
        state = λ _.
            subst (λ (s : State). Left w s left) (sym (ap (λ (o : Option ℕ). (unless_refused o (state_of w) (work (state_of w) c)).state) e))
            (record { accepted = k.accepted; state = k.state; spare = k.spare; size = k.size; free = frees left k.accepted });
        kept = λ _ n r. absurd (none-ne-some n (sym e ∙ r));
        ten = λ _. k.ten;
      }

-- ---- what it gives that no row refuses

pub passed_accepted : (w : List ℕ) (c : Call) → Numbered w c none → Accepted w
passed_accepted w c (inl (bad, e)) = absurd (none-ne-some 1 e)
passed_accepted w c (inr (inl (size, (bad, e)))) = absurd (none-ne-some 2 e)
passed_accepted w c (inr (inr (acc, e))) = acc

pub passed_none : (w : List ℕ) (c : Call) → Numbered w c none → refusal (state_of w) c ≡ none
passed_none w c (inl (bad, e)) = absurd (none-ne-some 1 e)
passed_none w c (inr (inl (size, (bad, e)))) = absurd (none-ne-some 2 e)
passed_none w c (inr (inr (acc, e))) = sym e
