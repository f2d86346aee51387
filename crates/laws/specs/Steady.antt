-- What the rules never change but by counting rounds and marking the end: round total, R, settings, ended mark.
use Rattle.std.specs.Prelude.{ℕ, ◌≡◌, refl, eqb}
use Rattle.std.proofs.Common.{◌∙◌}
use mathlib.Core.List.{List, [], ◌∷◌, tail}
use Rattle.std.proofs.Math.Option.{none}
use Rattle.rules.specs.Basics.{Side, client, server}
use Rattle.rules.specs.State.{Event, Held, in_record, Action, Aggregate, SideState, State, with_free, free_place, side, with_side, with_sum, with_block}
use Rattle.rules.specs.ChoiceHeads.{Head}
use Rattle.rules.specs.Queueing.{put_event, push_event, push_side, chain_of}
use Rattle.rules.specs.Aggregates.{add_aggregate, add_aggregates}
use Rattle.rules.specs.ChoiceDelays.{Block}
use Rattle.rules.specs.ChoiceRound.{Slot, Candidate, an_aggregate, a_block, an_event, a_timer, an_action, none_left, RoundOutcome, act, take_aggregate, raised_sum, clear_block, end_event, end_aggregates, lift_event, take_event, pop_side, timer_cleared, no_timer, timer_event, no_action, acted_side, acted_event, do_action}
use Rattle.laws.specs.Branches.{by_if}
use Rattle.laws.specs.Falls.{state_after}

-- from s to t all four stay
pub record Steady (s t : State) : Type 0 where
  pub rounds : t.rounds ≡ s.rounds
  pub room : t.room ≡ s.room
  pub settings : t.settings ≡ s.settings
  pub ended : t.ended ≡ s.ended

-- a side given anew
pub with_steady : (s : State) (z : Side) (x : SideState) → Steady s (with_side s z x)
with_steady s client x = record { rounds = refl; room = refl; settings = refl; ended = refl }
with_steady s server x = record { rounds = refl; room = refl; settings = refl; ended = refl }

-- aggregates added, an event put, an event pushed
pub add_steady : (s t : State) (new : List Aggregate) → Steady s t → Steady s (add_aggregates t new)
unfolding add_aggregates add_aggregate
add_steady s t [] h = h
add_steady s t (a ∷ new) h = add_steady s (add_aggregate t a) new (record { rounds = h.rounds; room = h.room; settings = h.settings; ended = h.ended })

pub put_steady : (s t : State) (e : Held Event) → Steady s t → Steady s (put_event t e)
unfolding put_event
put_steady s t e h =
    let x : SideState = push_side (side t e.value.side) (chain_of e.value) e in
    let g : Steady t (with_side t e.value.side x) = with_steady t e.value.side x in
    record { rounds = g.rounds ∙ h.rounds; room = g.room ∙ h.room; settings = g.settings ∙ h.settings; ended = g.ended ∙ h.ended }

pub push_steady : (s t : State) (e : Event) → Steady s t → Steady s (push_event t e)
unfolding push_event
push_steady s t e h =
    put_steady s (with_free t (tail t.free)) (in_record (free_place t.free) e) (record { rounds = h.rounds; room = h.room; settings = h.settings; ended = h.ended })

clear_steady : (s : State) (now : ℕ) (k : Block) → Steady s (clear_block s now k)
unfolding clear_block
clear_steady s now k =
    add_steady
    s
    (with_side s k.side (with_block (side s k.side) none (side s k.side).block_bypassable))
    (end_aggregates s now k)
    (with_steady s k.side (with_block (side s k.side) none (side s k.side).block_bypassable))

-- an event out of its chain
pub lift_steady : (s : State) (h : Head) → Steady s (lift_event s h)
unfolding lift_event
lift_steady s h = with_steady s h.event.side (pop_side (side s h.event.side) h.chain)

take_steady : (s : State) (h : Head) → Steady s (take_event s h)
unfolding take_event
take_steady s h = let g : Steady s (lift_event s h) = lift_steady s h in record { rounds = g.rounds; room = g.room; settings = g.settings; ended = g.ended }

timer_steady : (s : State) (z : Slot) → Steady s (timer_cleared s z)
unfolding timer_cleared
timer_steady s z = with_steady s z.side (no_timer (side s z.side) z.machine)

aggregate_steady : (s : State) (a : Held Aggregate) → Steady s (take_aggregate s a)
unfolding take_aggregate
aggregate_steady s a =
    let x : SideState = with_sum (side s a.value.side) (raised_sum s a.value) in
    let g : Steady s (with_side s a.value.side x) = with_steady s a.value.side x in
    record { rounds = g.rounds; room = g.room; settings = g.settings; ended = g.ended }

action_steady : (s : State) (z : Slot) (a : Action) → Steady s (do_action s z a)
unfolding do_action
action_steady s z a =
    let y : SideState = acted_side a.kind (side s z.side) a in
    push_steady s (with_side s z.side (no_action y z.machine)) (acted_event a.kind y z a) (with_steady s z.side (no_action y z.machine))

-- what a round makes of its candidate
pub act_steady : (s : State) (now : ℕ) (c : Candidate) → Steady s (state_after (act s now c))
act_steady s now (an_aggregate a) = aggregate_steady s a
act_steady s now (a_block k) =
    by_if
    (λ (o : RoundOutcome). Steady s (state_after o))
    (eqb (side s k.side).fixed.reporting_delay 0)
    (clear_steady s now k)
    (push_steady s (clear_block s now k) (end_event s now k) (clear_steady s now k))
act_steady s now (an_event h) = take_steady s h
act_steady s now (a_timer z t) = push_steady s (timer_cleared s z) (timer_event z t) (timer_steady s z)
act_steady s now (an_action z a) = action_steady s z a
act_steady s now none_left = record { rounds = refl; room = refl; settings = refl; ended = refl }
