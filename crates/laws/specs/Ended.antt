-- The ended mark and the refusals: number 10 sets the mark; every other refusal has 0 rounds and changes nothing; every other answer keeps the mark.
use Rattle.std.specs.Prelude.{ℕ, ◌<◌, ◌≡◌, refl, ◌⊎◌, Bool, true, List, [], ◌∷◌, eqb}
use Rattle.std.proofs.Common.{ap, subst, sym, inl, inr, true≢false, arith}
use Rattle.std.proofs.Math.Option.{Option, none, some}
use Rattle.rules.specs.Basics.{kind_of}
use Rattle.rules.specs.State.{State, side, with_ended}
use Rattle.rules.specs.ChoiceRound.{Candidate, an_aggregate, a_block, an_event, a_timer, an_action, none_left, RoundOutcome, next, taken, nothing, passed, act, candidate, closed, fits, round_sums, round}
use Rattle.rules.specs.Choice.{Answer, done, event, nothing_left, step_made, refused, Called}
use Rattle.rules.specs.Arguments.{Call, push, set_action, clear_action, set_timer, clear_timer, pick_next, sim_network_stack, EventIn}
use Rattle.rules.specs.Effects.{after_step}
use Rattle.rules.specs.Refusals.{first_of, table, refusal}
use Rattle.rules.specs.Calls.{work, unless_refused, call, leaves}
use Rattle.rules.specs.CallLists.{is_refused}
use Rattle.laws.specs.Branches.{by_if}
use Rattle.laws.specs.Steady.{Steady, act_steady}
use Rattle.laws.specs.Falls.{state_after}

-- a round keeps the mark; one that would pass a limit sets it and changes nothing else
abbrev pub RoundMarks : State → RoundOutcome → Type 0
RoundMarks s (next t) = t.ended ≡ s.ended
RoundMarks s (taken e t) = t.ended ≡ s.ended
RoundMarks s (nothing t) = t.ended ≡ s.ended
RoundMarks s (passed t) = t ≡ with_ended s true

-- what is made of a candidate is never a sum that passes the limit
abbrev Within : RoundOutcome → Type 0
Within (next t) = Unit
Within (taken e t) = Unit
Within (nothing t) = Unit
Within (passed t) = ⊥

act_within : (s : State) (now : ℕ) (c : Candidate) → Within (act s now c)
act_within s now (an_aggregate a) = tt
act_within s now (a_block k) = by_if Within (eqb (side s k.side).fixed.reporting_delay 0) tt tt
act_within s now (an_event h) = tt
act_within s now (a_timer z t) = tt
act_within s now (an_action z a) = tt
act_within s now none_left = tt

closed_marks : (s : State) (o : RoundOutcome) → Within o → Steady s (state_after o) → RoundMarks s (closed o)
closed_marks s (next t) n h = h.ended
closed_marks s (taken e t) n h = h.ended
closed_marks s (nothing t) n h = h.ended
closed_marks s (passed t) n h = absurd n

-- a round
pub round_marks : (s : State) (now : ℕ) → RoundMarks s (round s now)
unfolding round
round_marks s now =
    let c : Candidate = candidate s now in
    by_if (RoundMarks s) (fits (round_sums s now c)) (closed_marks s (act s now c) (act_within s now c) (act_steady s now c)) refl

-- ---- the choice: 10 is its only refusal, and sets the mark

abbrev pub ChoiceMarks : State → Answer → State → Type 0
ChoiceMarks s (refused n k) t = (n ≡ 10) × (t.ended ≡ true)
ChoiceMarks s (event e k) t = t.ended ≡ s.ended
ChoiceMarks s (nothing_left k) t = t.ended ≡ s.ended
ChoiceMarks s done t = t.ended ≡ s.ended
ChoiceMarks s (step_made a f) t = t.ended ≡ s.ended

-- ---- any call

-- of a refusal other than 10: no round is finished and the state is as it was
abbrev pub Marks : State → Answer → State → Type 0
Marks s (refused n k) t = ((n ≡ 10) × (t.ended ≡ true)) ⊎ ((n < 10) × (k ≡ 0) × (t ≡ s))
Marks s (event e k) t = t.ended ≡ s.ended
Marks s (nothing_left k) t = t.ended ≡ s.ended
Marks s done t = t.ended ≡ s.ended
Marks s (step_made a f) t = t.ended ≡ s.ended

-- the table's numbers are below 10
abbrev Below : List (ℕ × Bool) → Type 0
Below [] = Unit
Below ((n, b) ∷ l) = (n < 10) × Below l

pub table_below : (s : State) (c : Call) → Below (table s c)
unfolding table
table_below s (push r) = (omega arith, (omega arith, (omega arith, (omega arith, (omega arith, tt)))))
table_below s (set_action z r) = (omega arith, (omega arith, (omega arith, (omega arith, (omega arith, tt)))))
table_below s (clear_action z) = (omega arith, (omega arith, tt))
table_below s (set_timer z t) = (omega arith, (omega arith, (omega arith, (omega arith, tt))))
table_below s (clear_timer z) = (omega arith, (omega arith, tt))
table_below s (pick_next now) = (omega arith, (omega arith, tt))
table_below s (sim_network_stack now r) = (omega arith, (omega arith, (omega arith, (omega arith, (omega arith, (omega arith, tt))))))

-- a row that holds has a number below 10
abbrev pub BelowTen : Option ℕ → Type 0
BelowTen none = Unit
BelowTen (some n) = n < 10

pub first_below : (l : List (ℕ × Bool)) → Below l → BelowTen (first_of l)
first_below [] h = tt
first_below ((n, b) ∷ l) h = by_if BelowTen b h.0 (first_below l h.1)

-- ---- by the number

-- every refusal but 10 has 0 rounds and leaves the state
pub below_ten : (s t : State) (a : Answer) (n k : ℕ) → Marks s a t → a ≡ refused n k → (n ≡ 10 → ⊥) → (k ≡ 0) × (t ≡ s)
below_ten s t a n k m e ne = go (subst (λ (b : Answer). Marks s b t) e m)
  where
    go : Marks s (refused n k) t → (k ≡ 0) × (t ≡ s)
    go (inl h) = absurd (ne h.0)
    go (inr h) = (h.1, h.2)

-- number 10 sets the mark
pub ten_ends : (s t : State) (a : Answer) (k : ℕ) → Marks s a t → a ≡ refused 10 k → t.ended ≡ true
ten_ends s t a k m e = go (subst (λ (b : Answer). Marks s b t) e m)
  where
    go : Marks s (refused 10 k) t → t.ended ≡ true
    go (inl h) = h.1
    go (inr h) = absurd (omega (arith, h.0))

-- a call that answers 10 passed every row from 3 to 9
pub ten_works : (s : State) (c : Call) (k : ℕ) → (call s c).answer ≡ refused 10 k → ((work s c).answer ≡ refused 10 k) × ((call s c).state ≡ (work s c).state)
unfolding call refusal
ten_works s c k = go (first_of (table s c)) (first_below (table s c) (table_below s c))
  where
    go :
        (o : Option ℕ) → BelowTen o → (unless_refused o s (work s c)).answer ≡ refused 10 k
        → ((work s c).answer ≡ refused 10 k) × ((unless_refused o s (work s c)).state ≡ (work s c).state)
    go none b e = (e, refl)
    go (some n) b e = let z : n ≡ 10 = cc in absurd (omega (arith, b))

-- a step that gives 10 sets the mark and changes nothing else
pub step_ten : (s : State) (now : ℕ) (r : EventIn) (k : ℕ) → (work s (sim_network_stack now r)).answer ≡ refused 10 k → (k ≡ 0) × ((work s (sim_network_stack now r)).state ≡ with_ended s true)
unfolding work
step_ten s now r k =
    by_if
    (λ (d : Called). d.answer ≡ refused 10 k → (k ≡ 0) × (d.state ≡ with_ended s true))
    (fits (after_step s now r (kind_of r.kind)).sums)
    (λ e. absurd (true≢false (sym (ap is_refused e))))
    (λ e. let z : 0 ≡ k = cc in (omega arith, refl))

-- 3: "marked ended", whatever the call
pub ended_refuses : (s : State) (c : Call) → s.ended ≡ true → call s c ≡ leaves s (refused 3 0)
unfolding call refusal table
ended_refuses s (push r) h = rw h
ended_refuses s (set_action z r) h = rw h
ended_refuses s (clear_action z) h = rw h
ended_refuses s (set_timer z t) h = rw h
ended_refuses s (clear_timer z) h = rw h
ended_refuses s (pick_next now) h = rw h
ended_refuses s (sim_network_stack now r) h = rw h
