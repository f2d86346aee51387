-- What a round takes up, and how it ends, tell whether the state is quiet.
use Rattle.std.specs.Prelude.{ℕ, ◌+◌, ◌≡◌, refl, ◌⊎◌, eqb, get_or}
use Rattle.std.proofs.Common.{sym, ap, ◌∙◌, inl, inr, arith}
use mathlib.Core.List.{List, ◌∷◌, head?, tail, map}
use Rattle.std.proofs.Math.Option
use Rattle.std.proofs.Math.Option.{Option, none, some, none-ne-some}
use Rattle.std.proofs.Math.ListN.{get_or-map}
use Rattle.rules.specs.Basics.{Delay, after, absent, earlier, delay_to, Side, client, server}
use Rattle.rules.specs.State.{Event, Held, in_record, Action, Aggregate, SideState, State, queued, side, with_side, with_sum, with_aggregates, with_free, free_place}
use Rattle.rules.specs.ChoiceHeads.{Head, head_delay}
use Rattle.rules.specs.Queueing.{put_event, push_event, push_side, chain_of}
use Rattle.rules.specs.ChoiceDelays.{Delays, delays, Block, next_block, action_moments, offered, least_delay, action_delay, timer_delay}
use Rattle.rules.specs.ChoiceRound.{Slot, slot_at, slot_of, Candidate, an_aggregate, a_block, an_event, a_timer, an_action, none_left, or_none, due_timer, due_action, action_from, candidate, aggregate_first, block_first, event_first, timer_first, RoundOutcome, next, taken, nothing, passed, act, closed, round, round_sums, fits, take_aggregate, raised_sum, end_event, clear_block, timer_cleared, timer_event, do_action}
use Rattle.laws.specs.Branches.{by_if, by_test}
use Rattle.laws.specs.Counts.{queued_push, side_with}
use Rattle.laws.specs.Found.{Found, found_block, At, slot_at_lem}
use Rattle.laws.specs.Absent.{earlier_is, aggregate_absent, block_absent, event_absent, timer_absent, action_absent, early_at, There, least_there}
use Rattle.laws.specs.Quiet.{Quiet, QuietSide, absent_quiet, quiet_offers, quiet_side}
use Rattle.laws.specs.QuietRound.{Shows, Sees}

shows_block : (s : State) (now : ℕ) (o : Option Block) → Found s (or_none a_block o) → (o ≡ none → ⊥) → Shows s now (or_none a_block o)
shows_block s now none f h = absurd (h refl)
shows_block s now (some k) f h = λ q. none-ne-some k.end (sym (quiet_side q k.side).no_blocks ∙ f)

shows_event : (s : State) (now : ℕ) (o : Option Head) → offered s now ≡ o → (o ≡ none → ⊥) → Shows s now (or_none an_event o)
shows_event s now none e h = absurd (h refl)
shows_event s now (some g) e h = λ q. none-ne-some g (sym (quiet_offers s now q) ∙ e)

-- one of the two slots is there
there_either :
    (now d : ℕ) (l m : List (Option ℕ)) → earlier (least_delay now l) (least_delay now m) ≡ after d
    → There (slot_at (now + d) l) ⊎ There (slot_at (now + d) m)
there_either now d l m h = go (earlier_is (least_delay now l) (least_delay now m) d h)
  where
    go : (least_delay now l ≡ after d) ⊎ (least_delay now m ≡ after d) → There (slot_at (now + d) l) ⊎ There (slot_at (now + d) m)
    go (inl g) = inl (least_there now d l g)
    go (inr g) = inr (least_there now d m g)

shows_timer : (s : State) (now : ℕ) (i : Delay) → timer_delay s now ≡ i → (i ≡ absent → ⊥) → Shows s now (due_timer s now i)
shows_timer s now absent e h = absurd (h refl)
shows_timer s now (after d) e h =
    go
    (slot_at (now + d) s.client.timers)
    (slot_at (now + d) s.server.timers)
    (slot_at_lem (now + d) s.client.timers)
    (slot_at_lem (now + d) s.server.timers)
    (there_either now d s.client.timers s.server.timers e)
  where
    go :
        (c r : Option ℕ) → At s.client.timers (now + d) c → At s.server.timers (now + d) r → There c ⊎ There r
        → Shows s now (or_none (λ (z : Slot). a_timer z (now + d)) (slot_of c r))
    go (some m) r hc hr t = λ q. omega (arith, early_at now s.client.timers m q.client.no_timers hc)
    go none (some m) hc hr t = λ q. omega (arith, early_at now s.server.timers m q.server.no_timers hr)
    go none none hc hr (inl t) = absurd t
    go none none hc hr (inr t) = absurd t

-- an action stands where its moment was found
in_slot : (l : List (Option Action)) (m t : ℕ) → get_or (map (Option.map (λ (a : Action). a.moment)) l) m none ≡ some t → There (get_or l m none)
in_slot l m t h = go (get_or l m none) (sym (get_or-map (Option.map (λ (a : Action). a.moment)) l m none) ∙ h)
  where
    go : (o : Option Action) → Option.map (λ (a : Action). a.moment) o ≡ some t → There o
    go none g = absurd (none-ne-some t g)
    go (some a) g = tt

shows_from : (s : State) (now : ℕ) (z : Slot) (o : Option Action) → There o → (Quiet s now → ⊥) → Shows s now (or_none (an_action z) o)
shows_from s now z none t loud = absurd t
shows_from s now z (some a) t loud = loud

shows_action : (s : State) (now : ℕ) (d : Delay) → action_delay s now ≡ d → (d ≡ absent → ⊥) → Shows s now (due_action s now d)
shows_action s now absent e h = absurd (h refl)
shows_action s now (after d) e h =
    go
    (slot_at (now + d) (action_moments s.client))
    (slot_at (now + d) (action_moments s.server))
    (slot_at_lem (now + d) (action_moments s.client))
    (slot_at_lem (now + d) (action_moments s.server))
    (there_either now d (action_moments s.client) (action_moments s.server) e)
  where
    go :
        (c r : Option ℕ) → At (action_moments s.client) (now + d) c → At (action_moments s.server) (now + d) r → There c ⊎ There r
        → Shows s now (or_none (action_from s) (slot_of c r))
    go (some m) r hc hr t =
        shows_from s now _ (get_or s.client.actions m none) (in_slot s.client.actions m (now + d) hc)
        (λ q. omega (arith, early_at now (action_moments s.client) m q.client.no_actions hc))
    go none (some m) hc hr t =
        shows_from s now _ (get_or s.server.actions m none) (in_slot s.server.actions m (now + d) hr)
        (λ q. omega (arith, early_at now (action_moments s.server) m q.server.no_actions hr))
    go none none hc hr (inl t) = absurd t
    go none none hc hr (inr t) = absurd t

shows_aggregate : (s : State) (now : ℕ) (o : Option (Held Aggregate)) → (o ≡ none → Quiet s now) → Shows s now (or_none an_aggregate o)
shows_aggregate s now none h = h refl
shows_aggregate s now (some a) h = tt

shows : (s : State) (now : ℕ) → Shows s now (candidate s now)
unfolding candidate delays
shows s now =
    let d : Delays = delays s now in
    by_test
    (Shows s now)
    (aggregate_first d)
    (λ e₁.
    shows_aggregate
    s
    now
    (head? s.aggregates)
    (λ hn.
    let n : d.n ≡ absent = ap (λ (o : Option (Held Aggregate)). delay_to now (Option.map (λ (a : Held Aggregate). a.value.moment) o)) hn in
    let a = aggregate_absent d.n d.s d.i d.b d.q n e₁ in
    absent_quiet s now a.0 a.1 a.2 n a.3))
    (λ e₁.
    by_test
    (Shows s now)
    (block_first d)
    (λ e₂.
    shows_block
    s
    now
    (next_block s)
    (found_block s)
    (λ h. block_absent d.b d.s d.i d.q d.n (ap (λ (o : Option Block). delay_to now (Option.map (λ (b : Block). b.end) o)) h) e₁ e₂))
    (λ e₂.
    by_test
    (Shows s now)
    (event_first d)
    (λ e₃. shows_event s now (offered s now) refl (λ h. event_absent d.q d.s d.i d.b (ap (head_delay now) h) e₂ e₃))
    (λ e₃.
    by_test
    (Shows s now)
    (timer_first d)
    (λ e₄. shows_timer s now d.i refl (λ h. timer_absent d.i d.s d.q h e₃ e₄))
    (λ e₄. shows_action s now d.s refl (λ h. action_absent d.s d.i h e₄)))))

put_loud : (t : State) (e : Held Event) (now : ℕ) → Quiet (put_event t e) now → ⊥
unfolding put_event
put_loud t e now q =
    let z : Side = e.value.side in
    let x : SideState = push_side (side t z) (chain_of e.value) e in
    let n : queued (side (with_side t z x) z) ≡ 0 = (quiet_side q z).no_events in
    let m : queued (side (with_side t z x) z) ≡ queued x = ap queued (side_with t z x) in
    omega (arith, queued_push (side t z) (chain_of e.value) e)

push_loud : (t : State) (e : Event) (now : ℕ) → Quiet (push_event t e) now → ⊥
unfolding push_event
push_loud t e now q = put_loud (with_free t (tail t.free)) (in_record (free_place t.free) e) now q

summed_quiet :
    (s : State) (z : Side) (n : ℕ) (l : List (Held Aggregate)) (f : List ℕ) (now : ℕ)
    → Sees s now (next (with_free (with_aggregates (with_side s z (with_sum (side s z) n)) l) f))
summed_quiet s client n l f now = (λ q. record { client = same q.client; server = q.server }, λ q. record { client = back q.client; server = q.server })
  where
    same : QuietSide (with_sum s.client n) now → QuietSide s.client now
    same q = record { no_events = q.no_events; no_blocks = q.no_blocks; no_timers = q.no_timers; no_actions = q.no_actions }

    back : QuietSide s.client now → QuietSide (with_sum s.client n) now
    back q = record { no_events = q.no_events; no_blocks = q.no_blocks; no_timers = q.no_timers; no_actions = q.no_actions }
summed_quiet s server n l f now = (λ q. record { client = q.client; server = same q.server }, λ q. record { client = q.client; server = back q.server })
  where
    same : QuietSide (with_sum s.server n) now → QuietSide s.server now
    same q = record { no_events = q.no_events; no_blocks = q.no_blocks; no_timers = q.no_timers; no_actions = q.no_actions }

    back : QuietSide s.server now → QuietSide (with_sum s.server n) now
    back q = record { no_events = q.no_events; no_blocks = q.no_blocks; no_timers = q.no_timers; no_actions = q.no_actions }

act_sees : (s : State) (now : ℕ) (c : Candidate) → Shows s now c → Sees s now (act s now c)
unfolding take_aggregate do_action
act_sees s now (an_aggregate a) h = summed_quiet s a.value.side (raised_sum s a.value) (tail s.aggregates) (a.place ∷ s.free) now
act_sees s now (a_block k) h =
    by_if
    (Sees s now)
    (eqb (side s k.side).fixed.reporting_delay 0)
    h
    (λ q. absurd (push_loud (clear_block s now k) (end_event s now k) now q), λ q. absurd (h q))
act_sees s now (an_event g) h = h
act_sees s now (a_timer z t) h = (λ q. absurd (push_loud (timer_cleared s z) (timer_event z t) now q), λ q. absurd (h q))
act_sees s now (an_action z a) h = (λ q. absurd (push_loud _ _ now q), λ q. absurd (h q))
act_sees s now none_left h = h

closed_sees : (s : State) (now : ℕ) (o : RoundOutcome) → Sees s now o → Sees s now (closed o)
closed_sees s now (next t) h =
    (λ q. h.0 (record { client = q.client; server = q.server }), λ q. record { client = (h.1 q).client; server = (h.1 q).server })
closed_sees s now (taken e t) h = h
closed_sees s now (nothing t) h = h
closed_sees s now (passed t) h = tt

-- a round, however it ends
pub round_sees : (s : State) (now : ℕ) → Sees s now (round s now)
unfolding round
round_sees s now =
    by_if
    (Sees s now)
    (fits (round_sums s now (candidate s now)))
    (closed_sees s now (act s now (candidate s now)) (act_sees s now (candidate s now) (shows s now)))
    tt
