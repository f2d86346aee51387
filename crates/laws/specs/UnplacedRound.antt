-- A round and a choice read values only: without record numbers the outcome is the same but for record numbers.
use Rattle.std.specs.Prelude.{ℕ, zero, suc, ◌+◌, ◌-◌, max, ◌≡◌, refl, Bool, true, false, not, ◌&&◌, ◌||◌, leb, ltb, eqb, length, if◌then◌else◌}
use Rattle.std.proofs.Common.{sym, ap, ◌∙◌}
use mathlib.Core.List.{List, [], ◌∷◌, ◌++◌, tail, map}
use Rattle.std.proofs.Math.Option.{Option, none, some}
use Rattle.rules.specs.Basics.{Side, client, server}
use Rattle.rules.specs.State.{Event, Held, Action, ActionKind, SendPadding, BlockOutgoing, Aggregate, Chain, base, blocking, bypassable, internal, SideState, State, with_queue, with_queues, with_sum, with_block, side, with_side, with_aggregates, with_free, with_ended, rounds_left}
use Rattle.rules.specs.ChoiceHeads.{Head, waiting_head}
use Rattle.rules.specs.Queueing.{push_event}
use Rattle.rules.specs.Aggregates.{buffer_window, base_window, adjacent_window, waiting, base_moment, within, any_within, tail_of, burst_tail, on_expire, on_replace, on_delayed, test_sums, aggregates_of, add_aggregates, some_sum}
use Rattle.rules.specs.ChoiceDelays.{Block}
use Rattle.rules.specs.ChoiceRound.{Slot, Candidate, an_aggregate, a_block, an_event, a_timer, an_action, none_left, RoundOutcome, next, taken, nothing, passed, raised_sum, take_aggregate, end_moment, end_event, held_up_length, end_aggregates, clear_block, end_block, event_at, shifted, taken_event, pop_side, lift_event, take_event, timer_event, timer_cleared, action_cleared, no_action, sets_block, acted_side, acted_event, do_action, action_sums, act, candidate, candidate_sums, always_sums, round_sums, fits, closed, round}
use Rattle.rules.specs.Choice.{Called, event, nothing_left, refused, settle, rounds, choose}
use Rattle.laws.specs.Unplaced.{unplaced_list, unplaced, unplaced_side, unplaced_state, Alike, unplaced_length, unplaced_tail, unplaced_append, side_unplaced, with_unplaced, unplaced_state_twice, settled, push_unplaced, add_unplaced, rounds_left_unplaced}
use Rattle.laws.specs.Branches.{if_both}
use Rattle.laws.specs.UnplacedHeads.{unplaced_head, unplaced_found, unplaced_candidate, waiting_head_unplaced, candidate_unplaced}

-- ---- the tests of an aggregate

base_moment_unplaced : (n : ℕ) (l : List (Held Event)) → base_moment n (unplaced_list l) ≡ base_moment n l
base_moment_unplaced n [] = refl
base_moment_unplaced n (e ∷ l) = refl

any_within_unplaced : (w u : ℕ) (l : List (Held Event)) → any_within w u (unplaced_list l) ≡ any_within w u l
any_within_unplaced w u [] = refl
any_within_unplaced w u (e ∷ l) = ap (λ (b : Bool). leb (e.value.moment - u) w || b) (any_within_unplaced w u l)

tail_of_unplaced : (u t : ℕ) (l : List (Held Event)) → tail_of u t (unplaced_list l) ≡ tail_of u t l
tail_of_unplaced u t [] = refl
tail_of_unplaced u t (e ∷ l) = tail_of_unplaced u (if leb (e.value.moment - u) buffer_window then max t e.value.moment else t) l

waiting_unplaced : (x : SideState) → waiting (unplaced_side x) ≡ unplaced_list (waiting x)
waiting_unplaced x = sym (unplaced_append x.queues.blocking x.queues.bypassable)

burst_tail_unplaced : (x : SideState) (u : ℕ) → burst_tail (unplaced_side x) u ≡ burst_tail x u
burst_tail_unplaced x u =
    (λ d. if ltb 2 (length (waiting_unplaced x d)) then tail_of u u (waiting_unplaced x d) else u)
    ∙ (λ d. if ltb 2 (unplaced_length (waiting x) d) then tail_of_unplaced u u (waiting x) d else u)

on_expire_unplaced : (x : SideState) (end u : ℕ) → on_expire (unplaced_side x) end u ≡ on_expire x end u
unfolding on_expire
on_expire_unplaced x end u =
    λ d.
    if eqb end (burst_tail_unplaced x u d) then none
    else if within base_window u (base_moment_unplaced x.sum x.queues.base d) then none else some (end - burst_tail_unplaced x u d)

any_waiting_unplaced : (x : SideState) (u : ℕ) → any_within adjacent_window u (waiting (unplaced_side x)) ≡ any_within adjacent_window u (waiting x)
any_waiting_unplaced x u = ap (any_within adjacent_window u) (waiting_unplaced x) ∙ any_within_unplaced adjacent_window u (waiting x)

-- the other two tests, and the sums that they form
pub on_replace_unplaced : (x : SideState) (now u : ℕ) → on_replace (unplaced_side x) now u ≡ on_replace x now u
unfolding on_replace
on_replace_unplaced x now u =
    λ d.
    if any_waiting_unplaced x u d then none
    else if within base_window u (base_moment_unplaced x.sum x.queues.base d) then none else some (now - u)

pub on_delayed_unplaced : (x : SideState) (sum u : ℕ) → on_delayed (unplaced_side x) sum u ≡ on_delayed x sum u
unfolding on_delayed
on_delayed_unplaced x sum u = λ d. not (any_waiting_unplaced x u d) && not (within base_window u (base_moment_unplaced sum x.queues.base d))

pub test_sums_unplaced : (x : SideState) (sum u : ℕ) → test_sums (unplaced_side x) sum u ≡ test_sums x sum u
test_sums_unplaced x sum u =
    λ d. if any_waiting_unplaced x u d then [] else some_sum (base_moment_unplaced sum x.queues.base d)

-- ---- what a round makes of its candidate

raised_unplaced : (s : State) (a : Aggregate) → raised_sum (unplaced_state s) a ≡ raised_sum s a
raised_unplaced s a = ap (λ (x : SideState). x.sum + a.length) (side_unplaced s a.side)

aggregate_alike : (s : State) (a : Held Aggregate) → Alike (take_aggregate s a) (take_aggregate (unplaced_state s) (unplaced a))
unfolding take_aggregate
aggregate_alike s a = settled (gone s a.value.side) (with_free (gone (unplaced_state s) a.value.side) []) (go a.value.side)
  where
    gone : (u : State) (z : Side) → State
    gone u z = with_aggregates (with_side u z (with_sum (side u z) ((side u z).sum + a.value.length))) (tail u.aggregates)

    go : (z : Side) → unplaced_state (gone s z) ≡ with_free (gone (unplaced_state s) z) []
    go client = λ d. with_free (with_aggregates (with_side (unplaced_state s) client (with_sum (unplaced_side s.client) (s.client.sum + a.value.length))) (unplaced_tail s.aggregates d)) []
    go server = λ d. with_free (with_aggregates (with_side (unplaced_state s) server (with_sum (unplaced_side s.server) (s.server.sum + a.value.length))) (unplaced_tail s.aggregates d)) []

-- a block's end
end_event_unplaced : (s : State) (now : ℕ) (k : Block) → end_event (unplaced_state s) now k ≡ end_event s now k
end_event_unplaced s now k = go k.side
  where
    go : (z : Side) → end_event (unplaced_state s) now (record { side = z; end = k.end }) ≡ end_event s now (record { side = z; end = k.end })
    go client = refl
    go server = refl

held_up_unplaced : (x : SideState) (end : ℕ) (o : Option Head) → held_up_length (unplaced_side x) end (unplaced_found o) ≡ held_up_length x end o
held_up_unplaced x end none = refl
held_up_unplaced x end (some h) = λ d. if ltb h.moment end then on_expire_unplaced x end h.moment d else none

end_aggregates_unplaced : (s : State) (now : ℕ) (k : Block) → end_aggregates (unplaced_state s) now k ≡ end_aggregates s now k
end_aggregates_unplaced s now k =
    let x : SideState = side s k.side in
    let t : ℕ = end_moment now k in
    (λ d. aggregates_of s.settings.network_delay k.side t (held_up_length (side_unplaced s k.side d) t (waiting_head false (side_unplaced s k.side d))))
    ∙ (λ d. aggregates_of s.settings.network_delay k.side t (held_up_length (unplaced_side x) t (waiting_head_unplaced false x d)))
    ∙ (λ d. aggregates_of s.settings.network_delay k.side t (held_up_unplaced x t (waiting_head false x) d))

clear_block_unplaced : (s : State) (now : ℕ) (k : Block) → unplaced_state (clear_block s now k) ≡ clear_block (unplaced_state s) now k
unfolding clear_block
clear_block_unplaced s now k =
    let x : SideState = side s k.side in
    add_unplaced (with_side s k.side (with_block x none x.block_bypassable)) (end_aggregates s now k)
    ∙ (λ d. add_aggregates (with_unplaced s k.side (with_block x none x.block_bypassable) d) (sym (end_aggregates_unplaced s now k) d))
    ∙ (λ d. add_aggregates (with_side (unplaced_state s) k.side (with_block (sym (side_unplaced s k.side) d) none (sym (side_unplaced s k.side) d).block_bypassable)) (end_aggregates (unplaced_state s) now k))

-- of the outcome of a round
abbrev pub unplaced_outcome : RoundOutcome → RoundOutcome
unplaced_outcome (next t) = next (unplaced_state t)
unplaced_outcome (taken e t) = taken e (unplaced_state t)
unplaced_outcome (nothing t) = nothing (unplaced_state t)
unplaced_outcome (passed t) = passed (unplaced_state t)

unplaced_outcome_twice : (o : RoundOutcome) → unplaced_outcome (unplaced_outcome o) ≡ unplaced_outcome o
unplaced_outcome_twice (next t) = ap next (unplaced_state_twice t)
unplaced_outcome_twice (taken e t) = ap (taken e) (unplaced_state_twice t)
unplaced_outcome_twice (nothing t) = ap nothing (unplaced_state_twice t)
unplaced_outcome_twice (passed t) = ap passed (unplaced_state_twice t)

end_block_unplaced : (s : State) (now : ℕ) (k : Block) → end_block (unplaced_state s) now k ≡ unplaced_outcome (end_block s now k)
end_block_unplaced s now k =
    (λ d. if eqb (side_unplaced s k.side d).fixed.reporting_delay 0 then taken (end_event (unplaced_state s) now k) (clear_block (unplaced_state s) now k) else next (push_event (clear_block (unplaced_state s) now k) (end_event (unplaced_state s) now k)))
    ∙ if_both
    unplaced_outcome
    (eqb (side s k.side).fixed.reporting_delay 0)
    (λ d. taken (end_event_unplaced s now k d) (sym (clear_block_unplaced s now k) d))
    ((λ d. next (push_event (sym (clear_block_unplaced s now k) d) (end_event_unplaced s now k d))) ∙ ap next (sym (push_unplaced (clear_block s now k) (end_event s now k))))

-- an event taken
taken_event_unplaced : (s : State) (now : ℕ) (h : Head) → taken_event (unplaced_state s) now (unplaced_head h) ≡ taken_event s now h
taken_event_unplaced s now h = ap (λ (x : SideState). event_at h.event (max (shifted x h) (now + (h.moment - now)))) (side_unplaced s h.event.side)

pop_side_unplaced : (x : SideState) (c : Chain) → unplaced_side (pop_side x c) ≡ pop_side (unplaced_side x) c
pop_side_unplaced x base = ap (λ l. with_queues (unplaced_side x) (with_queue (unplaced_side x).queues base l)) (unplaced_tail x.queues.base)
pop_side_unplaced x blocking = ap (λ l. with_queues (unplaced_side x) (with_queue (unplaced_side x).queues blocking l)) (unplaced_tail x.queues.blocking)
pop_side_unplaced x bypassable = ap (λ l. with_queues (unplaced_side x) (with_queue (unplaced_side x).queues bypassable l)) (unplaced_tail x.queues.bypassable)
pop_side_unplaced x internal = ap (λ l. with_queues (unplaced_side x) (with_queue (unplaced_side x).queues internal l)) (unplaced_tail x.queues.internal)

-- an event out of its chain
pub lift_unplaced : (s : State) (h : Head) → unplaced_state (lift_event s h) ≡ lift_event (unplaced_state s) (unplaced_head h)
unfolding lift_event
lift_unplaced s h = go h.event.side
  where
    go : (z : Side) → unplaced_state (with_side s z (pop_side (side s z) h.chain)) ≡ with_side (unplaced_state s) z (pop_side (side (unplaced_state s) z) h.chain)
    go client = ap (with_side (unplaced_state s) client) (pop_side_unplaced s.client h.chain)
    go server = ap (with_side (unplaced_state s) server) (pop_side_unplaced s.server h.chain)

event_alike : (s : State) (h : Head) → Alike (take_event s h) (take_event (unplaced_state s) (unplaced_head h))
unfolding take_event
event_alike s h = settled (lift_event s h) (lift_event (unplaced_state s) (unplaced_head h)) (lift_unplaced s h)

-- a timer and an action
pub clear_timer_unplaced : (s : State) (z : Slot) → unplaced_state (timer_cleared s z) ≡ timer_cleared (unplaced_state s) z
unfolding timer_cleared
clear_timer_unplaced s z = go z.side
  where
    cleared : State → Side → State
    cleared u y = timer_cleared u (record { side = y; machine = z.machine })

    go : (y : Side) → unplaced_state (cleared s y) ≡ cleared (unplaced_state s) y
    go client = refl
    go server = refl

-- an action cleared
pub clear_action_unplaced : (s : State) (z : Slot) → unplaced_state (action_cleared s z) ≡ action_cleared (unplaced_state s) z
unfolding action_cleared
clear_action_unplaced s z = go z.side
  where
    cleared : State → Side → State
    cleared u y = action_cleared u (record { side = y; machine = z.machine })

    go : (y : Side) → unplaced_state (cleared s y) ≡ cleared (unplaced_state s) y
    go client = refl
    go server = refl

acted_unplaced : (k : ActionKind) (x : SideState) (a : Action) → acted_side k (unplaced_side x) a ≡ unplaced_side (acted_side k x a)
acted_unplaced SendPadding x a = refl
acted_unplaced BlockOutgoing x a = if_both unplaced_side (sets_block x a) refl refl

acted_event_unplaced : (k : ActionKind) (x : SideState) (z : Slot) (a : Action) → acted_event k (unplaced_side x) z a ≡ acted_event k x z a
acted_event_unplaced SendPadding x z a = refl
acted_event_unplaced BlockOutgoing x z a = refl

do_action_unplaced : (s : State) (z : Slot) (a : Action) → unplaced_state (do_action s z a) ≡ do_action (unplaced_state s) z a
unfolding do_action
do_action_unplaced s z a =
    let x : SideState = side s z.side in
    let y : SideState = acted_side a.kind x a in
    let q : acted_side a.kind (side (unplaced_state s) z.side) a ≡ unplaced_side y = ap (λ w. acted_side a.kind w a) (side_unplaced s z.side) ∙ acted_unplaced a.kind x a in
    push_unplaced (with_side s z.side (no_action y z.machine)) (acted_event a.kind y z a)
    ∙ (λ d. push_event (with_unplaced s z.side (no_action y z.machine) d) (sym (acted_event_unplaced a.kind y z a) d))
    ∙ (λ d. push_event (with_side (unplaced_state s) z.side (no_action (sym q d) z.machine)) (acted_event a.kind (sym q d) z a))

act_unplaced : (s : State) (now : ℕ) (c : Candidate) → unplaced_outcome (act s now c) ≡ unplaced_outcome (act (unplaced_state s) now (unplaced_candidate c))
act_unplaced s now (an_aggregate a) = ap next (aggregate_alike s a)
act_unplaced s now (a_block k) = sym (unplaced_outcome_twice (end_block s now k)) ∙ ap unplaced_outcome (sym (end_block_unplaced s now k))
act_unplaced s now (an_event h) = λ d. taken (sym (taken_event_unplaced s now h) d) (event_alike s h d)
act_unplaced s now (a_timer z t) =
    ap next
    (settled (push_event (timer_cleared s z) (timer_event z t)) (push_event (timer_cleared (unplaced_state s) z) (timer_event z t))
    (push_unplaced (timer_cleared s z) (timer_event z t) ∙ ap (λ u. push_event u (timer_event z t)) (clear_timer_unplaced s z)))
act_unplaced s now (an_action z a) = ap next (settled (do_action s z a) (do_action (unplaced_state s) z a) (do_action_unplaced s z a))
act_unplaced s now none_left = ap nothing (sym (unplaced_state_twice s))

-- ---- the sums formed

action_sums_unplaced : (k : ActionKind) (x : SideState) (a : Action) → action_sums k (unplaced_side x) a ≡ action_sums k x a
action_sums_unplaced SendPadding x a = refl
action_sums_unplaced BlockOutgoing x a = refl

candidate_sums_unplaced : (s : State) (now : ℕ) (c : Candidate) → candidate_sums (unplaced_state s) now (unplaced_candidate c) ≡ candidate_sums s now c
candidate_sums_unplaced s now (an_aggregate a) = ap (λ (n : ℕ). n ∷ []) (raised_unplaced s a.value)
candidate_sums_unplaced s now (a_block k) = λ d. (end_event_unplaced s now k d).moment ∷ map (λ (a : Aggregate). a.moment) (end_aggregates_unplaced s now k d)
candidate_sums_unplaced s now (an_event h) = refl
candidate_sums_unplaced s now (a_timer z t) = refl
candidate_sums_unplaced s now (an_action z a) = ap (λ x. action_sums a.kind x a) (side_unplaced s z.side) ∙ action_sums_unplaced a.kind (side s z.side) a
candidate_sums_unplaced s now none_left = refl

always_sums_unplaced : (s : State) → always_sums (unplaced_state s) ≡ always_sums s
unfolding always_sums
always_sums_unplaced s =
    λ d.
    (s.rounds + 1)
    ∷ some_sum (base_moment_unplaced s.client.sum s.client.queues.base d)
    ++ some_sum (base_moment_unplaced s.server.sum s.server.queues.base d)

sums_unplaced : (s : State) (now : ℕ) (c : Candidate) → round_sums (unplaced_state s) now (unplaced_candidate c) ≡ round_sums s now c
unfolding round_sums
sums_unplaced s now c = λ d. always_sums_unplaced s d ++ candidate_sums_unplaced s now c d

-- ---- the round

closed_unplaced : (o : RoundOutcome) → unplaced_outcome (closed o) ≡ closed (unplaced_outcome o)
closed_unplaced (next t) = refl
closed_unplaced (taken e t) = refl
closed_unplaced (nothing t) = refl
closed_unplaced (passed t) = refl

round_unplaced : (s : State) (now : ℕ) → unplaced_outcome (round s now) ≡ unplaced_outcome (round (unplaced_state s) now)
unfolding round
round_unplaced s now =
    let c : Candidate = candidate s now in
    sym
    ((λ d. made (unplaced_state s) (candidate_unplaced s now d) (fits (round_sums (unplaced_state s) now (candidate_unplaced s now d))))
    ∙ (λ d. made (unplaced_state s) (unplaced_candidate c) (fits (sums_unplaced s now c d)))
    ∙ same c (fits (round_sums s now c)))
  where
    made : State → Candidate → Bool → RoundOutcome
    made u c b = unplaced_outcome (if b then closed (act u now c) else passed (with_ended u true))

    same : (c : Candidate) (b : Bool) → made (unplaced_state s) (unplaced_candidate c) b ≡ made s c b
    same c true = closed_unplaced (act (unplaced_state s) now (unplaced_candidate c)) ∙ ap closed (sym (act_unplaced s now c)) ∙ sym (closed_unplaced (act s now c))
    same c false = ap passed (unplaced_state_twice (with_ended s true))

-- ---- the choice

abbrev pub unplaced_called : Called → Called
unplaced_called c = record { answer = c.answer; state = unplaced_state c.state }

settle_unplaced :
    (k : ℕ) (on : State → Called) (o : RoundOutcome) → ((t : State) → unplaced_called (on t) ≡ unplaced_called (on (unplaced_state t)))
    → unplaced_called (settle k on o) ≡ unplaced_called (settle k on (unplaced_outcome o))
settle_unplaced k on (next t) h = h t
settle_unplaced k on (taken e t) h = ap (λ u. record { answer = event e (k + 1); state = u }) (sym (unplaced_state_twice t))
settle_unplaced k on (nothing t) h = ap (λ u. record { answer = nothing_left (k + 1); state = u }) (sym (unplaced_state_twice t))
settle_unplaced k on (passed t) h = ap (λ u. record { answer = refused 10 k; state = u }) (sym (unplaced_state_twice t))

rounds_unplaced : (f now k : ℕ) (s : State) → unplaced_called (rounds f now k s) ≡ unplaced_called (rounds f now k (unplaced_state s))
unfolding rounds
rounds_unplaced zero now k s = ap (λ u. record { answer = nothing_left k; state = u }) (sym (unplaced_state_twice s))
rounds_unplaced (suc f) now k s =
    let on : State → Called = λ (t : State). rounds f now (k + 1) t in
    settle_unplaced k on (round s now) (rounds_unplaced f now (k + 1))
    ∙ ap (λ o. unplaced_called (settle k on o)) (round_unplaced s now)
    ∙ sym (settle_unplaced k on (round (unplaced_state s) now) (rounds_unplaced f now (k + 1)))

-- a choice
pub choose_unplaced : (s : State) (now : ℕ) → unplaced_called (choose s now) ≡ unplaced_called (choose (unplaced_state s) now)
unfolding choose
choose_unplaced s now =
    rounds_unplaced (suc (rounds_left s)) now 0 s ∙ ap (λ n. unplaced_called (rounds (suc n) now 0 (unplaced_state s))) (sym (rounds_left_unplaced s))
