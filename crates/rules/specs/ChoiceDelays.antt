-- Document 01, "One choice": "Each round reckons five delays from now; an absent one is later than all."
use Rattle.std.specs.Prelude.{◌-◌, ℕ, leb, ltb, if◌then◌else◌}
use mathlib.Core.List.{List, [], ◌∷◌, head?, map}
use Rattle.std.proofs.Math.Option
use Rattle.std.proofs.Math.Option.{Option, none, some}
use Rattle.rules.specs.State.{Action, Aggregate, Held, SideState, State}
use Rattle.rules.specs.Basics.{Delay, Side, absent, after, client, delay_to, earlier, server}
use Rattle.rules.specs.ChoiceHeads.{Head, head_delay, peek_queue}

-- the five
pub record Delays : Type 0 where
  pub s : Delay
  pub i : Delay
  pub b : Delay
  pub n : Delay
  pub q : Delay

-- ---- "s, i: least delay of an action, of a timer, at or after now. Earlier ones stay and are never taken."

abbrev pub slot_delay : ℕ → Option ℕ → Delay
slot_delay now none = absent
slot_delay now (some t) = if leb now t then after (t - now) else absent

abbrev pub least_delay : ℕ → List (Option ℕ) → Delay
least_delay now [] = absent
least_delay now (o ∷ l) = earlier (slot_delay now o) (least_delay now l)

-- the moments of a side's actions, by machine
abbrev pub action_moments : SideState → List (Option ℕ)
action_moments x = map (Option.map (λ (a : Action). a.moment)) x.actions

-- s: `peek_scheduled_action`
abbrev pub action_delay : State → ℕ → Delay
action_delay s now = earlier (least_delay now (action_moments s.client)) (least_delay now (action_moments s.server))

-- i: `peek_scheduled_internal_timer`
abbrev pub timer_delay : State → ℕ → Delay
timer_delay s now = earlier (least_delay now s.client.timers) (least_delay now s.server.timers)

-- ---- "b: the earlier block end since now; equal ends mean the server." `peek_blocked_exp`

pub record Block : Type 0 where
  pub side : Side
  pub end : ℕ

abbrev pub first_block : Option ℕ → Option ℕ → Option Block
first_block none none = none
first_block (some c) none = some (record { side = client; end = c })
first_block none (some r) = some (record { side = server; end = r })
first_block (some c) (some r) = if ltb c r then some (record { side = client; end = c }) else some (record { side = server; end = r })

abbrev pub next_block : State → Option Block
next_block s = first_block s.client.block_end s.server.block_end

abbrev pub block_delay : State → ℕ → Delay
block_delay s now = delay_to now (Option.map (λ (b : Block). b.end) (next_block s))

-- ---- "n: the first aggregate since now." `peek_aggregate_delay`

abbrev pub aggregate_delay : State → ℕ → Delay
aggregate_delay s now = delay_to now (Option.map (λ (a : Held Aggregate). a.value.moment) (head? s.aggregates))

-- ---- "q: head of the queues", given min(s, i, b, n). `peek_queue`

unfoldable pub offered : State → ℕ → Option Head
offered s now = peek_queue s now (earlier (earlier (earlier (action_delay s now) (timer_delay s now)) (block_delay s now)) (aggregate_delay s now))

-- ---- all five

unfoldable pub delays : State → ℕ → Delays
delays s now =
    record { s = action_delay s now; i = timer_delay s now; b = block_delay s now; n = aggregate_delay s now; q = head_delay now (offered s now) }
