-- The ended mark and the refusals: number 10 sets the mark; every other refusal has 0 rounds and changes nothing; every other answer keeps the mark.
use Rattle.std.specs.Prelude.{ℕ, zero, suc, ◌+◌, ◌≡◌, refl, ◌⊎◌, Bool, true, false, ltb, if◌then◌else◌}
use Rattle.std.proofs.Common.{◌∙◌, ap, subst, inl, inr, arith}
use Rattle.std.proofs.Math.Option.{Option, none, some}
use Rattle.rules.specs.Basics.{kind_of}
use Rattle.rules.specs.State.{State, side, rounds_left}
use Rattle.rules.specs.ChoiceRound.{RoundOutcome, next, taken, nothing, passed, fits, round, no_timer, no_action, timer_cleared, action_cleared}
use Rattle.rules.specs.Choice.{Answer, done, event, nothing_left, step_made, refused, Called, rounds, settle, choose}
use Rattle.rules.specs.Arguments.{Call, push, set_action, clear_action, set_timer, clear_timer, pick_next, sim_network_stack, action_kind_of}
use Rattle.rules.specs.Effects.{after_step}
use Rattle.rules.specs.Refusals.{first_of, table, refusal}
use Rattle.rules.specs.Calls.{work, unless_refused, call}
use Rattle.rules.specs.Limits.{moment_limit}
use Rattle.laws.specs.Branches.{by_if}
use Rattle.laws.specs.Steady.{with_steady}
use Rattle.laws.specs.Adds.{after_push_adds, after_set_adds, set_timer_adds}
use Rattle.laws.proofs.Adds.{after_step_adds}
use Rattle.laws.specs.Ended.{RoundMarks, round_marks, ChoiceMarks, Marks, table_below, BelowTen, first_below}

onward : (s t : State) (a : Answer) (u : State) → t.ended ≡ s.ended → ChoiceMarks t a u → ChoiceMarks s a u
onward s t (refused n k) u h m = m
onward s t (event e k) u h m = m ∙ h
onward s t (nothing_left k) u h m = m ∙ h
onward s t done u h m = m ∙ h
onward s t (step_made a f) u h m = m ∙ h

rounds_mark : (f now k : ℕ) (s : State) → ChoiceMarks s (rounds f now k s).answer (rounds f now k s).state
unfolding rounds
rounds_mark zero now k s = refl
rounds_mark (suc f) now k s = go (round s now) (round_marks s now) (rounds_mark f now (k + 1))
  where
    go :
        (o : RoundOutcome) → RoundMarks s o → ((t : State) → ChoiceMarks t (rounds f now (k + 1) t).answer (rounds f now (k + 1) t).state)
        → ChoiceMarks s (settle k (λ (t : State). rounds f now (k + 1) t) o).answer (settle k (λ (t : State). rounds f now (k + 1) t) o).state
    go (next t) m ih = onward s t (rounds f now (k + 1) t).answer (rounds f now (k + 1) t).state m (ih t)
    go (taken e t) m ih = m
    go (nothing t) m ih = m
    go (passed t) m ih = (refl, ap (λ (u : State). u.ended) m)

-- a choice
choose_marks : (s : State) (now : ℕ) → ChoiceMarks s (choose s now).answer (choose s now).state
unfolding choose
choose_marks s now = rounds_mark (suc (rounds_left s)) now 0 s

choice_marks : (s : State) (a : Answer) (t : State) → ChoiceMarks s a t → Marks s a t
choice_marks s (refused n k) t h = inl h
choice_marks s (event e k) t h = h
choice_marks s (nothing_left k) t h = h
choice_marks s done t h = h
choice_marks s (step_made a f) t h = h

work_marks : (s : State) (c : Call) → Marks s (work s c).answer (work s c).state
unfolding work action_cleared timer_cleared
work_marks s (push r) = (after_push_adds s r (kind_of r.kind)).steady.ended
work_marks s (set_action z r) = (after_set_adds s z r (action_kind_of r.kind)).steady.ended
work_marks s (clear_action z) = (with_steady s z.side (no_action (side s z.side) z.machine)).ended
work_marks s (set_timer z t) = (set_timer_adds s z t).steady.ended
work_marks s (clear_timer z) = (with_steady s z.side (no_timer (side s z.side) z.machine)).ended
work_marks s (pick_next now) = choice_marks s (choose s now).answer (choose s now).state (choose_marks s now)
work_marks s (sim_network_stack now r) =
    let t : State = (after_step s now r (kind_of r.kind)).state in
    let e : t.ended ≡ s.ended = (after_step_adds s now r (kind_of r.kind)).steady.ended in
    by_if
    (λ (d : Called). Marks s d.answer d.state)
    (fits (after_step s now r (kind_of r.kind)).sums)
    e
    (inl (refl, refl))

-- a call
pub call_marks : (s : State) (c : Call) → Marks s (call s c).answer (call s c).state
unfolding call refusal
call_marks s c = go (first_of (table s c)) (first_below (table s c) (table_below s c))
  where
    go : (o : Option ℕ) → BelowTen o → Marks s (unless_refused o s (work s c)).answer (unless_refused o s (work s c)).state
    go none h = work_marks s c
    go (some n) h = inr (h, refl, refl)

-- the numbers that a choice gives
pub choice_numbers : (s : State) (now n k : ℕ) → (call s (pick_next now)).answer ≡ refused n k → (n ≡ 3) ⊎ ((n ≡ 7) ⊎ (n ≡ 10))
unfolding call refusal table work
choice_numbers s now n k = go s.ended (ltb moment_limit now)
  where
    go :
        (a b : Bool) → (unless_refused (if a then some 3 else if b then some 7 else none) s (choose s now)).answer ≡ refused n k
        → (n ≡ 3) ⊎ ((n ≡ 7) ⊎ (n ≡ 10))
    go true b e = let z : 3 ≡ n = cc in inl (omega arith)
    go false true e = let z : 7 ≡ n = cc in inr (inl (omega arith))
    go false false e = inr (inr (subst (λ (a : Answer). ChoiceMarks s a (choose s now).state) e (choose_marks s now)).0)
