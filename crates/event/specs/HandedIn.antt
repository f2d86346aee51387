-- The declared structs as the rules' own types; all that this crate takes from the rules is imported here. Assumes nothing.
use Rattle.std.specs.Prelude.{ℕ, Bool, true, false}
use Rattle.rules.specs.Basics.{Side, client, server, is_some}
unfoldable pub use Rattle.rules.specs.Basics.{has_machine_no}
use Rattle.rules.specs.State.{Aggregate}
use Rattle.rules.specs.Arguments.{EventIn, ActionIn, action_kind_of}
use Rattle.event.specs.declared.SimEvent.{SimEvent}
use Rattle.event.specs.declared.ScheduledAction.{ScheduledAction}
use Rattle.event.specs.declared.AggregateDelay.{AggregateDelay}

-- the flag `client` as a side
abbrev pub side_of : Bool → Side
side_of true = client
side_of false = server

-- an event as it is handed in
abbrev pub event_in : SimEvent → EventIn
event_in e =
    record {
      kind = e.kind.0;
      moment = e.moment.0;
      delay = e.delay.0;
      side = side_of e.client;
      padding = e.padding;
      bypass = e.bypass;
      replace = e.replace;
      machine = e.machine;
    }

-- an action as it is handed in
abbrev pub action_in : ScheduledAction → ActionIn
action_in a = record { kind = a.kind.0; moment = a.moment.0; duration = a.duration.0; bypass = a.bypass; replace = a.replace }

-- a pending aggregate
abbrev pub aggregate_in : AggregateDelay → Aggregate
aggregate_in a = record { moment = a.moment.0; length = a.length.0; side = side_of a.client }

-- the number is that of an action that a slot may hold
unfoldable pub is_action_no : ℕ → Bool
is_action_no n = is_some (action_kind_of n)
