-- What a round takes up reads values only: the heads, the delays and the candidate of a state without its record numbers.
use Rattle.std.specs.Prelude.{ℕ, ◌+◌, ◌-◌, ◌≡◌, refl, Bool, get_or, if◌then◌else◌}
use Rattle.std.proofs.Common.{ap, ◌∙◌}
use mathlib.Core.List.{List, [], ◌∷◌, head?}
use Rattle.std.proofs.Math.Option
use Rattle.std.proofs.Math.Option.{Option, none, some, map}
use Rattle.rules.specs.Basics.{Delay, after, absent, ◌≤ᵈ◌, earlier, delay_to, Side, client, server}
use Rattle.rules.specs.State.{Event, Held, Action, Aggregate, Chain, base, blocking, bypassable, internal, SideState, State, side}
use Rattle.rules.specs.ChoiceHeads.{Head, head_as, first_by, by_moment, by_raw_moment, by_delay, bypassable_head, blocking_head, internal_head, base_head, side_head, queue_head, waiting_head, passing_head, waiting_first, not_before, earliest_of_side, head_delay, earliest_blocked, held_back, peek_from, peek_queue}
use Rattle.rules.specs.ChoiceDelays.{Delays, delays, offered, next_block, Block, action_delay, timer_delay, block_delay, aggregate_delay}
use Rattle.rules.specs.ChoiceRound.{Slot, Candidate, an_aggregate, a_block, an_event, a_timer, an_action, none_left, or_none, timer_slot, due_timer, due_action, action_slot, action_in, action_from, aggregate_first, block_first, event_first, timer_first, first_fitting, candidate}
use Rattle.laws.specs.Unplaced.{unplaced_list, unplaced, unplaced_side, unplaced_state, side_unplaced}
use Rattle.laws.specs.Branches.{if_both}

-- of a head
abbrev pub unplaced_head : Head → Head
unplaced_head h = record { chain = h.chain; place = 0; event = h.event; moment = h.moment }

-- of a head that may be missing
abbrev pub unplaced_found : Option Head → Option Head
unplaced_found none = none
unplaced_found (some h) = some (unplaced_head h)

-- ---- heads

head_unplaced : (c : Chain) (n : ℕ) (l : List (Held Event)) → head_as c n (unplaced_list l) ≡ unplaced_found (head_as c n l)
unfolding head_as
head_unplaced c n [] = refl
head_unplaced c n (e ∷ l) = refl

-- the order that two heads are compared by reads no place
abbrev ByValue : (Head → Head → Bool) → Type 0
ByValue lt = (a b : Head) → lt (unplaced_head a) (unplaced_head b) ≡ lt a b

first_of_unplaced : (lt : Head → Head → Bool) → ByValue lt → (a b : Option Head) → first_by lt (unplaced_found a) (unplaced_found b) ≡ unplaced_found (first_by lt a b)
unfolding first_by
first_of_unplaced lt v none b = refl
first_of_unplaced lt v (some a) none = refl
first_of_unplaced lt v (some a) (some b) =
    (λ d. if v b a d then some (unplaced_head b) else some (unplaced_head a)) ∙ if_both unplaced_found (lt b a) refl refl

first_unplaced :
    (lt : Head → Head → Bool) → ByValue lt → (a b : Option Head) {a' b' : Option Head} → a' ≡ unplaced_found a → b' ≡ unplaced_found b
    → first_by lt a' b' ≡ unplaced_found (first_by lt a b)
first_unplaced lt v a b p q = (λ d. first_by lt (p d) (q d)) ∙ first_of_unplaced lt v a b

bypassable_unplaced : (x : SideState) → bypassable_head (unplaced_side x) ≡ unplaced_found (bypassable_head x)
bypassable_unplaced x = head_unplaced bypassable 0 x.queues.bypassable

blocking_unplaced : (x : SideState) → blocking_head (unplaced_side x) ≡ unplaced_found (blocking_head x)
blocking_unplaced x = head_unplaced blocking 0 x.queues.blocking

internal_unplaced : (x : SideState) → internal_head (unplaced_side x) ≡ unplaced_found (internal_head x)
internal_unplaced x = head_unplaced internal 0 x.queues.internal

base_unplaced : (x : SideState) → base_head (unplaced_side x) ≡ unplaced_found (base_head x)
base_unplaced x = head_unplaced base x.sum x.queues.base

side_head_unplaced : (x : SideState) → side_head (unplaced_side x) ≡ unplaced_found (side_head x)
unfolding side_head
side_head_unplaced x =
    first_unplaced
    by_moment
    (λ a b. refl)
    (base_head x)
    (first_by by_moment (first_by by_moment (bypassable_head x) (blocking_head x)) (internal_head x))
    (base_unplaced x)
    (first_unplaced
    by_moment
    (λ a b. refl)
    (first_by by_moment (bypassable_head x) (blocking_head x))
    (internal_head x)
    (first_unplaced by_moment (λ a b. refl) (bypassable_head x) (blocking_head x) (bypassable_unplaced x) (blocking_unplaced x))
    (internal_unplaced x))

queue_head_unplaced : (s : State) (now : ℕ) → queue_head (unplaced_state s) now ≡ unplaced_found (queue_head s now)
unfolding queue_head
queue_head_unplaced s now =
    first_unplaced (by_delay now) (λ a b. refl) (side_head s.client) (side_head s.server) (side_head_unplaced s.client) (side_head_unplaced s.server)

-- the first waiting packet
pub waiting_head_unplaced : (flag : Bool) (x : SideState) → waiting_head flag (unplaced_side x) ≡ unplaced_found (waiting_head flag x)
unfolding waiting_head
waiting_head_unplaced flag x =
    if_both
    unplaced_found
    flag
    (blocking_unplaced x)
    (first_unplaced by_moment (λ a b. refl) (bypassable_head x) (blocking_head x) (bypassable_unplaced x) (blocking_unplaced x))

passing_head_unplaced : (flag : Bool) (x : SideState) → passing_head flag (unplaced_side x) ≡ unplaced_found (passing_head flag x)
unfolding passing_head
passing_head_unplaced flag x =
    if_both
    unplaced_found
    flag
    (first_unplaced by_raw_moment (λ a b. refl) (first_by by_moment (base_head x) (internal_head x)) (bypassable_head x) n (bypassable_unplaced x))
    n
  where
    n : first_by by_moment (base_head (unplaced_side x)) (internal_head (unplaced_side x)) ≡ unplaced_found (first_by by_moment (base_head x) (internal_head x))
    n = first_unplaced by_moment (λ a b. refl) (base_head x) (internal_head x) (base_unplaced x) (internal_unplaced x)

not_before_unplaced : (t : ℕ) (o : Option Head) → map (not_before t) (unplaced_found o) ≡ unplaced_found (map (not_before t) o)
not_before_unplaced t none = refl
not_before_unplaced t (some h) = refl

earliest_side_unplaced : (now : ℕ) (x : SideState) → earliest_of_side now (unplaced_side x) ≡ unplaced_found (earliest_of_side now x)
unfolding earliest_of_side
earliest_side_unplaced now x =
    let t : ℕ = Option.get_or x.block_end now in
    let f : Bool = x.block_bypassable in
    first_unplaced
    waiting_first
    (λ a b. refl)
    (passing_head f x)
    (map (not_before t) (waiting_head f x))
    (passing_head_unplaced f x)
    (ap (map (not_before t)) (waiting_head_unplaced f x) ∙ not_before_unplaced t (waiting_head f x))

head_delay_unplaced : (now : ℕ) (o : Option Head) → head_delay now (unplaced_found o) ≡ head_delay now o
head_delay_unplaced now none = refl
head_delay_unplaced now (some h) = refl

earliest_unplaced : (s : State) (now : ℕ) → earliest_blocked (unplaced_state s) now ≡ unplaced_found (earliest_blocked s now)
unfolding earliest_blocked
earliest_unplaced s now =
    let c : Option Head = earliest_of_side now s.client in
    let r : Option Head = earliest_of_side now s.server in
    let pc : earliest_of_side now (unplaced_side s.client) ≡ unplaced_found c = earliest_side_unplaced now s.client in
    let pr : earliest_of_side now (unplaced_side s.server) ≡ unplaced_found r = earliest_side_unplaced now s.server in
    (λ d. if head_delay now (pc d) ≤ᵈ head_delay now (pr d) then pc d else pr d)
    ∙ (λ d. if head_delay_unplaced now c d ≤ᵈ head_delay_unplaced now r d then unplaced_found c else unplaced_found r)
    ∙ if_both unplaced_found (head_delay now c ≤ᵈ head_delay now r) refl refl

held_back_unplaced : (s : State) (z : Side) (e : Event) → held_back (side (unplaced_state s) z) e ≡ held_back (side s z) e
held_back_unplaced s client e = refl
held_back_unplaced s server e = refl

peek_from_unplaced : (s : State) (now : ℕ) (least : Delay) (o : Option Head) → peek_from (unplaced_state s) now least (unplaced_found o) ≡ unplaced_found (peek_from s now least o)
peek_from_unplaced s now least none = refl
peek_from_unplaced s now least (some h) =
    if_both
    unplaced_found
    (after (h.moment - now) ≤ᵈ least)
    ((λ d. if held_back_unplaced s h.event.side h.event d then earliest_unplaced s now d else some (unplaced_head h))
    ∙ if_both unplaced_found (held_back (side s h.event.side) h.event) refl refl)
    refl

peek_unplaced : (s : State) (now : ℕ) (least : Delay) → peek_queue (unplaced_state s) now least ≡ unplaced_found (peek_queue s now least)
unfolding peek_queue
peek_unplaced s now least = ap (peek_from (unplaced_state s) now least) (queue_head_unplaced s now) ∙ peek_from_unplaced s now least (queue_head s now)

-- ---- delays

aggregate_delay_unplaced : (s : State) (now : ℕ) → aggregate_delay (unplaced_state s) now ≡ aggregate_delay s now
aggregate_delay_unplaced s now = go s.aggregates
  where
    go :
        (l : List (Held Aggregate))
        → delay_to now (map (λ (a : Held Aggregate). a.value.moment) (head? (unplaced_list l))) ≡ delay_to now (map (λ (a : Held Aggregate). a.value.moment) (head? l))
    go [] = refl
    go (a ∷ l) = refl

offered_unplaced : (s : State) (now : ℕ) → offered (unplaced_state s) now ≡ unplaced_found (offered s now)
unfolding offered
offered_unplaced s now =
    let rest : Delay = earlier (earlier (action_delay s now) (timer_delay s now)) (block_delay s now) in
    (λ d. peek_queue (unplaced_state s) now (earlier rest (aggregate_delay_unplaced s now d))) ∙ peek_unplaced s now (earlier rest (aggregate_delay s now))

delays_unplaced : (s : State) (now : ℕ) → delays (unplaced_state s) now ≡ delays s now
unfolding delays
delays_unplaced s now = λ d. record { s = action_delay s now; i = timer_delay s now; b = block_delay s now; n = aggregate_delay_unplaced s now d; q = q d }
  where
    q : head_delay now (offered (unplaced_state s) now) ≡ head_delay now (offered s now)
    q = ap (head_delay now) (offered_unplaced s now) ∙ head_delay_unplaced now (offered s now)

-- ---- the candidate

abbrev pub unplaced_candidate : Candidate → Candidate
unplaced_candidate (an_aggregate a) = an_aggregate (unplaced a)
unplaced_candidate (a_block k) = a_block k
unplaced_candidate (an_event h) = an_event (unplaced_head h)
unplaced_candidate (a_timer z t) = a_timer z t
unplaced_candidate (an_action z a) = an_action z a
unplaced_candidate none_left = none_left

aggregate_found : (l : List (Held Aggregate)) → or_none an_aggregate (head? (unplaced_list l)) ≡ unplaced_candidate (or_none an_aggregate (head? l))
aggregate_found [] = refl
aggregate_found (a ∷ l) = refl

block_found : (o : Option Block) → or_none a_block o ≡ unplaced_candidate (or_none a_block o)
block_found none = refl
block_found (some k) = refl

event_found : (o : Option Head) → or_none an_event (unplaced_found o) ≡ unplaced_candidate (or_none an_event o)
event_found none = refl
event_found (some h) = refl

timer_found : (s : State) (now : ℕ) (i : Delay) → due_timer (unplaced_state s) now i ≡ unplaced_candidate (due_timer s now i)
timer_found s now absent = refl
timer_found s now (after d) = go (timer_slot s (now + d))
  where
    go : (o : Option Slot) → or_none (λ (z : Slot). a_timer z (now + d)) o ≡ unplaced_candidate (or_none (λ (z : Slot). a_timer z (now + d)) o)
    go none = refl
    go (some z) = refl

action_from_lem : (s : State) (z : Slot) → action_from (unplaced_state s) z ≡ unplaced_candidate (action_from s z)
action_from_lem s z = ap (λ (x : SideState). or_none (an_action z) (get_or x.actions z.machine none)) (side_unplaced s z.side) ∙ go (action_in s z)
  where
    go : (o : Option Action) → or_none (an_action z) o ≡ unplaced_candidate (or_none (an_action z) o)
    go none = refl
    go (some a) = refl

action_found : (s : State) (now : ℕ) (i : Delay) → due_action (unplaced_state s) now i ≡ unplaced_candidate (due_action s now i)
action_found s now absent = refl
action_found s now (after d) = go (action_slot s (now + d))
  where
    go : (o : Option Slot) → or_none (action_from (unplaced_state s)) o ≡ unplaced_candidate (or_none (action_from s) o)
    go none = refl
    go (some z) = action_from_lem s z

fitting_unplaced : (s : State) (now : ℕ) (d : Delays) → first_fitting (unplaced_state s) now d ≡ unplaced_candidate (first_fitting s now d)
fitting_unplaced s now d =
    if_both
    unplaced_candidate
    (aggregate_first d)
    (aggregate_found s.aggregates)
    (if_both
    unplaced_candidate
    (block_first d)
    (block_found (next_block s))
    (if_both
    unplaced_candidate
    (event_first d)
    (ap (or_none an_event) (offered_unplaced s now) ∙ event_found (offered s now))
    (if_both unplaced_candidate (timer_first d) (timer_found s now d.i) (action_found s now d.s))))

-- what the round takes up
pub candidate_unplaced : (s : State) (now : ℕ) → candidate (unplaced_state s) now ≡ unplaced_candidate (candidate s now)
unfolding candidate
candidate_unplaced s now = ap (first_fitting (unplaced_state s) now) (delays_unplaced s now) ∙ fitting_unplaced s now (delays s now)
