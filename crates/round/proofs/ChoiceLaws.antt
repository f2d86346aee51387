-- The rounds of a choice: each turn is one of the rules' rounds, and each lowers A + 3B + T + 4S. Assumes nothing.
use Prim.Native.Nat.{ℕ, suc, ◌+◌, ◌<◌}
use mathlib.Core.Path.{◌≡◌, refl, sym, ap, subst, ◌∙◌}
use mathlib.Core.List.{List}
use Rattle.std.specs.Prelude.{Option, Some, None, Result, Ok, Err, IsErr, IsErrAnd}
use mathlib.Core.Option.{none, some, none-ne-some, some-injective}
use native.Mathlib.Omega.{arith}
use Rattle.rules.specs.State.{State, rounds_left, total}
use Rattle.rules.specs.ChoiceRound.{RoundOutcome, next, taken, nothing, passed, round}
use Rattle.rules.specs.Choice.{Answer, Called, choose, rounds, settle}
use Rattle.laws.specs.Falls.{Kept, state_after}
use Rattle.laws.proofs.Falls.{enough, round_kept}
use Rattle.laws.specs.Runs.{Makes}
use Rattle.laws.proofs.Runs.{round_makes}
use Rattle.event.specs.Answers.{choice_of, refused_by}
use Rattle.event.specs.declared.answer.Chosen.{Chosen}
use Rattle.event.specs.declared.answer.Refusal.{Refusal}
use Rattle.layout.specs.Accepted.{Accepted}
use Rattle.layout.specs.Layout.{state_of}
use Rattle.round.specs.Cases.{said, pass_of}
use Rattle.round.specs.Rounds.{Rounded, Choosing, Chose}
use Rattle.round.proofs.HeaderWords.{then_spare}

-- ---- the beginning

pub choice_begins : (w : List ℕ) (now : ℕ) → Accepted w → Choosing w w now 0
unfolding choose
choice_begins w now accepted =
    record {
      may = record { accepted = accepted; finished = omega arith };
      rest = λ f l. enough f (suc (rounds_left (state_of w))) now 0 (state_of w) l (omega arith);
      size = refl;
      spare = λ i s. refl;
    }

-- ---- one round of the rules

-- with any bound, the rounds are one round and the rest
one_round : (f now k : ℕ) (s : State) (o : RoundOutcome) → round s now ≡ o → rounds (suc f) now k s ≡ settle k (λ (t : State). rounds f now (k + 1) t) o
unfolding rounds
one_round f now k s o e = ap (settle k (λ (t : State). rounds f now (k + 1) t)) e

-- a round that goes on, and one that answers
goes_on : (k : ℕ) (o : RoundOutcome) → none ≡ said k o → o ≡ next (state_after o)
goes_on k (next t) e = refl
goes_on k (taken v t) e = absurd (none-ne-some _ e)
goes_on k (nothing t) e = absurd (none-ne-some _ e)
goes_on k (passed t) e = absurd (none-ne-some _ e)

ends : (k : ℕ) (on : State → Called) (o : RoundOutcome) (a : Answer) → some a ≡ said k o → settle k on o ≡ record { answer = a; state = state_after o }
ends k on (next t) a e = absurd (none-ne-some a (sym e))
ends k on (taken v t) a e = ap (λ (x : Answer). record { answer = x; state = t }) (sym (some-injective a _ e))
ends k on (nothing t) a e = ap (λ (x : Answer). record { answer = x; state = t }) (sym (some-injective a _ e))
ends k on (passed t) a e = ap (λ (x : Answer). record { answer = x; state = t }) (sym (some-injective a _ e))

-- ---- a turn

module _ (w₀ w left : List ℕ) (now k : ℕ) (p : Result (Option Chosen) Refusal) (inv : Choosing w₀ w now k) (r : Rounded w left now k p) where
  -- the answer of the choice
  choice_ends : (c : Result Chosen Refusal) → pass_of p ≡ some (choice_of c) → Chose w₀ left now c
  choice_ends c e =
      record {
        answer = sym (ap (λ (x : Called). x.answer) called);
        state = r.came.words.state ∙ sym (ap (λ (x : Called). x.state) called);
        accepted = r.accepted;
        size = r.came.words.size ∙ inv.size;
        spare = then_spare w₀ w left inv.spare r.came.words.spare;
      }
    where
      called : choose (state_of w₀) now ≡ record { answer = choice_of c; state = state_after (round (state_of w) now) }
      called =
          sym (inv.rest (suc (rounds_left (state_of w))) (omega arith)) ∙ one_round (rounds_left (state_of w)) now k (state_of w) (round (state_of w) now) refl
          ∙ ends k _ (round (state_of w) now) (choice_of c) (sym e ∙ r.came.answer)

  pub choice_found : (c : Chosen) → p ≡ Ok (Some c) → Chose w₀ left now (Ok c)
  choice_found c e = choice_ends (Ok c) (ap pass_of e)

  -- as `?` hands it on
  pub choice_stops : (x : Refusal) → p ≡ Err x → (c : Result Chosen Refusal) → IsErr c × IsErrAnd c (λ y. y ≡ x) → Chose w₀ left now c
  choice_stops x e (Ok c) h = absurd h.1
  choice_stops x e (Err y) h = choice_ends (Err y) (ap pass_of e ∙ ap (λ z. some (refused_by z)) (sym h.1))

  module _ (e : p ≡ Ok None) where
    on : round (state_of w) now ≡ next (state_after (round (state_of w) now))
    on = goes_on k (round (state_of w) now) (sym (ap pass_of e) ∙ r.came.answer)

    left_on : round (state_of w) now ≡ next (state_of left)
    left_on = on ∙ ap next (sym r.came.words.state)

    -- fewer are left, and one more is made
    pub turn_falls : rounds_left (state_of left) < rounds_left (state_of w)
    turn_falls = (subst (Kept (state_of w)) left_on (round_kept (state_of w) now)).left

    turn_made : total (state_of left) ≡ total (state_of w) + 1
    turn_made = let m = subst (Makes (state_of w)) left_on (round_makes (state_of w) now) in omega (arith, m.total)

    pub turn_goes : Choosing w₀ left now (k + 1)
    turn_goes =
        record {
          may = record { accepted = r.accepted; finished = omega (arith, turn_made, inv.may.finished) };
          rest = λ f l.
              enough f (rounds_left (state_of w)) now (k + 1) (state_of left) l turn_falls
              ∙ sym (one_round (rounds_left (state_of w)) now k (state_of w) (next (state_of left)) left_on) ∙ inv.rest (suc (rounds_left (state_of w))) (omega arith);
          size = r.came.words.size ∙ inv.size;
          spare = then_spare w₀ w left inv.spare r.came.words.spare;
        }
