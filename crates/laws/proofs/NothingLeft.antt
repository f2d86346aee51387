-- "Nothing left" is answered exactly when the state that the choice began with is quiet.
use Rattle.std.specs.Prelude.{ℕ, zero, suc, ◌+◌, ◌<◌, ◌≡◌, false}
use Rattle.std.proofs.Common.{sym, true≢false, arith}
use Rattle.std.proofs.Math.Option.{Option, none, some}
use Rattle.rules.specs.State.{State, rounds_left}
use Rattle.rules.specs.ChoiceRound.{RoundOutcome, next, taken, nothing, passed, round}
use Rattle.rules.specs.Choice.{Answer, done, event, nothing_left, step_made, refused, rounds, settle, choose}
use Rattle.rules.specs.Arguments.{pick_next}
use Rattle.rules.specs.Refusals.{refusal}
use Rattle.rules.specs.Calls.{work, unless_refused, call}
use Rattle.rules.specs.CallLists.{is_refused, nothing_to_take, says_nothing}
use Rattle.laws.specs.Falls.{Kept, Falls}
use Rattle.laws.proofs.Falls.{round_kept}
use Rattle.laws.specs.Quiet.{quiet_test, test_quiet}
use Rattle.laws.specs.QuietRound.{Sees}
use Rattle.laws.proofs.QuietRound.{round_sees}
use Rattle.laws.specs.Branches.{never_true}
use Rattle.laws.specs.NothingLeft.{Says}

carry : (s t : State) (now : ℕ) (a : Answer) → Sees s now (next t) → Says t now a → Says s now a
carry s t now (nothing_left k) h q = h.0 q
carry s t now (event e k) h q = λ p. q (h.1 p)
carry s t now done h q = q
carry s t now (step_made a f) h q = q
carry s t now (refused n k) h q = tt

rounds_say : (f now k : ℕ) (s : State) → rounds_left s < f → Says s now (rounds f now k s).answer
unfolding rounds
rounds_say zero now k s h = absurd (omega arith)
rounds_say (suc f) now k s h =
    go (round s now) (round_kept s now) (round_sees s now) (λ t g. rounds_say f now (k + 1) t (omega arith))
  where
    go :
        (o : RoundOutcome) → Kept s o → Sees s now o → ((t : State) → Falls s t → Says t now (rounds f now (k + 1) t).answer)
        → Says s now (settle k (λ (t : State). rounds f now (k + 1) t) o).answer
    go (next t) g e ih = carry s t now (rounds f now (k + 1) t).answer e (ih t g)
    go (taken v t) g e ih = e
    go (nothing t) g e ih = e
    go (passed t) g e ih = tt

-- a choice
choose_says : (s : State) (now : ℕ) → Says s now (choose s now).answer
unfolding choose
choose_says s now = rounds_say (suc (rounds_left s)) now 0 s (omega arith)

says_exactly : (s : State) (now : ℕ) (a : Answer) → Says s now a → is_refused a ≡ false → says_nothing a ≡ nothing_to_take s now
says_exactly s now (nothing_left k) q n = sym (quiet_test s now q)
says_exactly s now (event e k) q n = sym (never_true (nothing_to_take s now) (λ h. q (test_quiet s now h)))
says_exactly s now done q n = absurd q
says_exactly s now (step_made a f) q n = absurd q
says_exactly s now (refused m k) q n = absurd (true≢false n)

-- a choice that is not refused answers "nothing left" exactly when there is nothing to take
choose_exactly : (s : State) (now : ℕ) → is_refused (choose s now).answer ≡ false → says_nothing (choose s now).answer ≡ nothing_to_take s now
choose_exactly s now = says_exactly s now (choose s now).answer (choose_says s now)

-- the same of the call
pub pick_next_exactly :
    (s : State) (now : ℕ) → is_refused (call s (pick_next now)).answer ≡ false → says_nothing (call s (pick_next now)).answer ≡ nothing_to_take s now
unfolding call work
pick_next_exactly s now = go (refusal s (pick_next now))
  where
    go :
        (o : Option ℕ) → is_refused (unless_refused o s (choose s now)).answer ≡ false
        → says_nothing (unless_refused o s (choose s now)).answer ≡ nothing_to_take s now
    go none n = choose_exactly s now n
    go (some m) n = absurd (true≢false n)
