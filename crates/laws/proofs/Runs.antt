-- A round, and a choice: the round total counts the rounds made, with those to come they are bounded, and the room rule is kept.
use Rattle.std.specs.Prelude.{ℕ, zero, suc, ◌+◌, ◌≤◌, ◌<◌, ◌≡◌, refl, Bool, true, false, if◌then◌else◌}
use Rattle.std.proofs.Common.{◌∙◌, arith}
use Rattle.rules.specs.State.{State, with_ended, rounds_left}
use Rattle.rules.specs.Limits.{moment_limit}
use Rattle.rules.specs.ChoiceRound.{RoundOutcome, next, taken, nothing, passed, act, closed, candidate, round, always_sums, round_sums, fits}
use Rattle.rules.specs.Choice.{rounds, settle, choose}
use Rattle.rules.specs.CallLists.{carried}
use Rattle.laws.specs.Fits.{fits_all}
use Rattle.laws.specs.Falls.{Kept, Falls, state_after}
use Rattle.laws.proofs.Falls.{round_kept}
use Rattle.laws.specs.Steady.{Steady, act_steady}
use Rattle.laws.specs.Runs.{Ran, Makes, ended_makes, Chosen}

closed_makes : (s : State) (o : RoundOutcome) → s.rounds + 1 ≤ moment_limit → Steady s (state_after o) → Kept s (closed o) → Makes s (closed o)
closed_makes s (next t) n h k =
    record { total = omega arith; left = omega arith; same = h.room; fixed = h.settings; kept = λ g. omega arith; limit = λ g. omega (arith, h.rounds) }
closed_makes s (taken e t) n h k =
    record { total = omega arith; left = omega arith; same = h.room; fixed = h.settings; kept = λ g. omega arith; limit = λ g. omega (arith, h.rounds) }
closed_makes s (nothing t) n h k =
    record { total = omega arith; left = omega arith; same = h.room; fixed = h.settings; kept = λ g. omega arith; limit = λ g. omega (arith, h.rounds) }
closed_makes s (passed t) n h k =
    record { total = omega arith; left = omega arith; same = h.room; fixed = h.settings; kept = λ g. omega arith; limit = λ g. omega (arith, h.rounds) }

-- a round, however it ends
pub round_makes : (s : State) (now : ℕ) → Makes s (round s now)
unfolding round round_sums always_sums
round_makes s now =
    by_if_both
    (fits (round_sums s now (candidate s now)))
    (λ e. (fits_all (round_sums s now (candidate s now)) e).0)
    (round_kept s now)
  where
    by_if_both :
        (b : Bool) → (b ≡ true → s.rounds + 1 ≤ moment_limit) → Kept s (if b then closed (act s now (candidate s now)) else passed (with_ended s true))
        → Makes s (if b then closed (act s now (candidate s now)) else passed (with_ended s true))
    by_if_both true n k = closed_makes s (act s now (candidate s now)) (n refl) (act_steady s now (candidate s now)) k
    by_if_both false n k = ended_makes s

-- a round, and the rest of the choice after it
chained : (s t u : State) (k m c : ℕ) → Ran s t 0 1 0 → Ran t u (k + 1) m c → Ran s u k m c
chained s t u k m c a b =
    record { total = omega arith; left = omega arith; same = b.same ∙ a.same; fixed = b.fixed ∙ a.fixed; kept = λ g. b.kept (a.kept g); limit = λ g. b.limit (a.limit g) }

-- a round counted after k others
last : (s t : State) (k : ℕ) → Ran s t 0 1 1 → Ran s t k (k + 1) 1
last s t k a = record { total = omega arith; left = omega arith; same = a.same; fixed = a.fixed; kept = a.kept; limit = a.limit }

rounds_run : (f now k : ℕ) (s : State) → rounds_left s < f → Chosen s k (rounds f now k s)
unfolding rounds
rounds_run zero now k s h = absurd (omega arith)
rounds_run (suc f) now k s h = go (round s now) (round_kept s now) (round_makes s now) (λ t g. rounds_run f now (k + 1) t (omega arith))
  where
    go :
        (o : RoundOutcome) → Kept s o → Makes s o → ((t : State) → Falls s t → Chosen t (k + 1) (rounds f now (k + 1) t))
        → Chosen s k (settle k (λ (t : State). rounds f now (k + 1) t) o)
    go (next t) g r ih = chained s t (rounds f now (k + 1) t).state k (carried (rounds f now (k + 1) t).answer) _ r (ih t g)
    go (taken e t) g r ih = last s t k r
    go (nothing t) g r ih = last s t k r
    go (passed t) g r ih = record { total = omega arith; left = omega arith; same = r.same; fixed = r.fixed; kept = r.kept; limit = r.limit }

-- a choice: its rounds with those to come are at most those to come before it, and one more unless it is refused
pub choose_runs : (s : State) (now : ℕ) → Chosen s 0 (choose s now)
unfolding choose
choose_runs s now = rounds_run (suc (rounds_left s)) now 0 s (omega arith)
