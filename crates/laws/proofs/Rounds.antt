-- The rounds of a choice one by one, as `finished_states` has them: how many, what they leave, the room after each, and that fuel suffices.
use Rattle.std.specs.Prelude.{ℕ, zero, suc, ◌+◌, ◌≤◌, ◌<◌, ◌≡◌, refl, true, false, not, Bool, ◌&&◌, List, [], ◌∷◌, length, get_or, if◌then◌else◌}
use Rattle.std.proofs.Common.{ap, ap₂, ◌∙◌, subst, sym, arith, le-leb}
use Rattle.std.proofs.Math.Option.{Option, none, some}
use Rattle.rules.specs.Choice.{Answer, Called, done, event, nothing_left, step_made, refused, rounds, settle, choose}
use Rattle.rules.specs.Arguments.{Call, clear_action, clear_timer, pick_next, push, set_action, set_timer, sim_network_stack}
use Rattle.rules.specs.ChoiceRound.{RoundOutcome, fits, next, nothing, passed, round, taken}
use Rattle.rules.specs.State.{State, reserved, rounds_left, used, with_ended}
use Rattle.rules.specs.Effects.{after_step}
use Rattle.rules.specs.CallLists.{all_have_room, carried, finished, finished_states, has_room, lacks_room, round_states, rounds_of, work_rounds}
use Rattle.rules.specs.Calls.{call, unless_refused, work}
use Rattle.rules.specs.Basics.{is_some, kind_of}
use Rattle.rules.specs.Refusals.{refusal}
use Rattle.laws.specs.Falls.{Falls, Kept}
use Rattle.laws.proofs.Falls.{round_kept}
use Rattle.laws.specs.Runs.{Makes}
use Rattle.laws.proofs.Runs.{round_makes}
use Rattle.laws.specs.Ended.{RoundMarks, round_marks, ten_works}
use Rattle.laws.specs.Branches.{by_if}
use Rattle.laws.specs.Rounds.{last_of, LeavesLast}

-- the last state under its number
last_at : (s d : State) (l : List State) → get_or (s ∷ l) (length l) d ≡ last_of s l
last_at s d [] = refl
last_at s d (t ∷ l) = last_at t d l

one_more : (s t : State) (k : ℕ) (l : List State) (a : Answer) (u : State) → LeavesLast t (k + 1) l a u → LeavesLast s k (t ∷ l) a u
one_more s t k l (event e j) u h = (omega (arith, h.0), h.1)
one_more s t k l (nothing_left j) u h = (omega (arith, h.0), h.1)
one_more s t k l (refused n j) u h = (h.0, omega (arith, h.1), h.2)
one_more s t k l done u h = h
one_more s t k l (step_made a f) u h = h

rounds_leave : (f now k : ℕ) (s : State) → LeavesLast s k (finished_states f now s) (rounds f now k s).answer (rounds f now k s).state
unfolding rounds finished_states
rounds_leave zero now k s = (omega arith, refl)
rounds_leave (suc f) now k s = go (round s now) (round_marks s now) (rounds_leave f now (k + 1))
  where
    on : State → Called
    on t = rounds f now (k + 1) t

    go :
        (o : RoundOutcome) → RoundMarks s o → ((t : State) → LeavesLast t (k + 1) (finished_states f now t) (on t).answer (on t).state)
        → LeavesLast s k (finished (λ (t : State). finished_states f now t) o) (settle k on o).answer (settle k on o).state
    go (next t) m ih = one_more s t k (finished_states f now t) (on t).answer (on t).state (ih t)
    go (taken e t) m ih = (omega arith, refl)
    go (nothing t) m ih = (omega arith, refl)
    go (passed t) m ih = (refl, omega arith, m)

-- a choice
choose_leaves : (s : State) (now : ℕ) → LeavesLast s 0 (round_states s now) (choose s now).answer (choose s now).state
unfolding choose
choose_leaves s now = rounds_leave (suc (rounds_left s)) now 0 s

-- the last state under its number: for a choice that is refused
ten_leaves :
    (s : State) (l : List State) (t : State) (a : Answer) (n k : ℕ) → LeavesLast s 0 l a t → a ≡ refused n k
    → (n ≡ 10) × (k ≡ length l) × (t ≡ with_ended (get_or (s ∷ l) k s) true)
ten_leaves s l t a n k h e =
    let g : LeavesLast s 0 l (refused n k) t = subst (λ (b : Answer). LeavesLast s 0 l b t) e h in
    let m : k ≡ length l = omega (arith, g.1) in
    (g.0, m, g.2 ∙ ap (λ (u : State). with_ended u true) (sym (ap (λ (i : ℕ). get_or (s ∷ l) i s) m ∙ last_at s s l)))

-- a choice that gives 10
pub choice_ten :
    (s : State) (now k : ℕ) → (call s (pick_next now)).answer ≡ refused 10 k
    → (k ≡ length (round_states s now)) × ((call s (pick_next now)).state ≡ with_ended (get_or (s ∷ round_states s now) k s) true)
unfolding work
choice_ten s now k e =
    let w = ten_works s (pick_next now) k e in
    let h = ten_leaves s (round_states s now) (choose s now).state (choose s now).answer 10 k (choose_leaves s now) w.0 in
    (h.1, w.1 ∙ h.2)

last_carries : (s : State) (l : List State) (a : Answer) (t : State) → LeavesLast s 0 l a t → carried a ≡ length l
last_carries s l (event e j) t h = omega (arith, h.0)
last_carries s l (nothing_left j) t h = omega (arith, h.0)
last_carries s l (refused n j) t h = omega (arith, h.1)
last_carries s l done t h = absurd h
last_carries s l (step_made a f) t h = absurd h

-- a clause for each call
work_carries : (s : State) (c : Call) → carried (work s c).answer ≡ work_rounds s c
unfolding work
work_carries s (push r) = refl
work_carries s (set_action z r) = refl
work_carries s (clear_action z) = refl
work_carries s (set_timer z t) = refl
work_carries s (clear_timer z) = refl
work_carries s (pick_next now) = last_carries s (round_states s now) (choose s now).answer (choose s now).state (choose_leaves s now)
work_carries s (sim_network_stack now r) =
    by_if
    (λ (d : Called). carried d.answer ≡ 0)
    (fits (after_step s now r (kind_of r.kind)).sums)
    refl
    refl

-- a call: what its answer carries is what the rules finish in it
pub call_carries : (s : State) (c : Call) → carried (call s c).answer ≡ rounds_of s c
unfolding call
call_carries s c = go (refusal s c)
  where
    go : (o : Option ℕ) → carried (unless_refused o s (work s c)).answer ≡ (if is_some o then 0 else work_rounds s c)
    go none = work_carries s c
    go (some n) = refl

rounds_roomy : (f now : ℕ) (s : State) → used s + reserved s ≤ s.room → all_have_room (finished_states f now s) ≡ true
unfolding finished_states
rounds_roomy zero now s h = refl
rounds_roomy (suc f) now s h = go (round s now) (round_makes s now) (rounds_roomy f now)
  where
    roomy : (t : State) → used t + reserved t ≤ t.room → has_room t ≡ true
    roomy t g = le-leb (used t + reserved t) t.room g

    go :
        (o : RoundOutcome) → Makes s o → ((t : State) → used t + reserved t ≤ t.room → all_have_room (finished_states f now t) ≡ true)
        → all_have_room (finished (λ (t : State). finished_states f now t) o) ≡ true
    go (next t) m ih = ap₂ (λ (a b : Bool). a && b) (roomy t (m.kept h)) (ih t (m.kept h))
    go (taken e t) m ih = ap₂ (λ (a b : Bool). a && b) (roomy t (m.kept h)) refl
    go (nothing t) m ih = ap₂ (λ (a b : Bool). a && b) (roomy t (m.kept h)) refl
    go (passed t) m ih = refl

-- a choice from a state that keeps the room rule
pub choice_has_room : (s : State) (now : ℕ) → used s + reserved s ≤ s.room → lacks_room s now ≡ false
choice_has_room s now h = ap not (ap₂ (λ (a b : Bool). a && b) (le-leb (used s + reserved s) s.room h) (rounds_roomy (suc (rounds_left s)) now s h))

pub enough_states : (f g now : ℕ) (s : State) → rounds_left s < f → rounds_left s < g → finished_states f now s ≡ finished_states g now s
unfolding finished_states
enough_states zero g now s hf hg = absurd (omega arith)
enough_states (suc f) zero now s hf hg = absurd (omega arith)
enough_states (suc f) (suc g) now s hf hg =
    go (round s now) (round_kept s now) (λ t h. enough_states f g now t (omega arith) (omega arith))
  where
    go :
        (o : RoundOutcome) → Kept s o → ((t : State) → Falls s t → finished_states f now t ≡ finished_states g now t)
        → finished (λ (t : State). finished_states f now t) o ≡ finished (λ (t : State). finished_states g now t) o
    go (next t) h ih = ap (λ (l : List State). t ∷ l) (ih t h)
    go (taken e t) h ih = refl
    go (nothing t) h ih = refl
    go (passed t) h ih = refl
