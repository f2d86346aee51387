-- What a call hands in, as document 01's "The state" keeps it. Kinds may be any number here: number 6 is given for them.
use Rattle.std.specs.Prelude.{ℕ, Bool, [], ◌∷◌, get_or, if◌then◌else◌}
use Rattle.std.proofs.Math.Option.{Option, none, some}
use Rattle.rules.specs.State.{Action, ActionKind, BlockOutgoing, Event, SendPadding}
use Rattle.rules.specs.Basics.{Kind, Side, has_machine}
use Rattle.rules.specs.ChoiceRound.{Slot}

-- an event as it is handed in
pub record EventIn : Type 0 where
  pub kind : ℕ
  pub moment : ℕ
  pub delay : ℕ
  pub side : Side
  pub padding : Bool
  pub bypass : Bool
  pub replace : Bool
  pub machine : ℕ

-- an action as it is handed in
pub record ActionIn : Type 0 where
  pub kind : ℕ
  pub moment : ℕ
  pub duration : ℕ
  pub bypass : Bool
  pub replace : Bool

-- the calls on a state: "push an event, set or clear a machine's action or timer, choose the next event (`pick_next`), make a network step
-- (`sim_network_stack`)"
pub data Call : Type 0 where
  push : EventIn → Call
  set_action : Slot → ActionIn → Call
  clear_action : Slot → Call
  set_timer : Slot → ℕ → Call
  clear_timer : Slot → Call
  pick_next : ℕ → Call
  sim_network_stack : ℕ → EventIn → Call

-- "Kinds 0, 1, 3, 4, 5 and 7 have no machine: the one handed in is ignored and 0 is kept."
abbrev pub event_of : EventIn → Kind → Event
event_of r k =
    record { kind = k; moment = r.moment; delay = r.delay; side = r.side; padding = r.padding; bypass = r.bypass; replace = r.replace; machine = if has_machine k then r.machine else 0 }

-- the action of a number, its place in `TriggerAction`: 1 is `SendPadding`, 2 is `BlockOutgoing`, no other can be set
abbrev pub action_kind_of : ℕ → Option ActionKind
action_kind_of n = get_or (none ∷ some SendPadding ∷ some BlockOutgoing ∷ []) n none

-- "only `BlockOutgoing` has a duration, and one handed in with `SendPadding` is ignored and 0 is kept"
abbrev pub kept_duration : ActionKind → ℕ → ℕ
kept_duration SendPadding d = 0
kept_duration BlockOutgoing d = d

abbrev pub action_of : ActionIn → ActionKind → Action
action_of r k = record { kind = k; moment = r.moment; duration = kept_duration k r.duration; bypass = r.bypass; replace = r.replace }
