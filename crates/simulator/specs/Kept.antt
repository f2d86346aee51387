-- An event and an action as they are kept. Assumes nothing.
use Rattle.std.specs.Prelude.{ℕ, ◌≤◌, ◌≡◌, set, if◌then◌else◌}
use Rattle.std.proofs.Math.Option.{Option}
use Rattle.rules.specs.State.{Action, State, side, with_actions, with_side}
use Rattle.rules.specs.ChoiceRound.{Slot}
use Rattle.rules.specs.Arguments.{ActionIn, action_kind_of}
use Rattle.rules.specs.Effects.{after_set_action}
use Rattle.event.specs.HandedIn.{has_machine_no}
use Rattle.event.specs.declared.SimEvent.{SimEvent}
use Rattle.layout.specs.Layout.{action_from}
use Rattle.layout.specs.Header.{ActionShape}

-- "Kinds 0, 1, 3, 4, 5 and 7 have no machine: the one handed in is ignored and 0 is kept."
abbrev pub kept_event : SimEvent → SimEvent
kept_event e =
    record {
      kind = e.kind;
      moment = e.moment;
      delay = e.delay;
      client = e.client;
      padding = e.padding;
      bypass = e.bypass;
      replace = e.replace;
      machine = if has_machine_no e.kind.0 then e.machine else 0;
    }

-- an action in the slot z of the state s
abbrev pub put_in : State → Slot → Option Action → State
put_in s z a = with_side s z.side (with_actions (side s z.side) (set (side s z.side).actions z.machine a))

-- kind and flags in one word, the moment and the duration: in order, and read back as the rules keep the action
pub record KeptAction (r : ActionIn) (word duration : ℕ) : Type 0 where
  pub shape : ActionShape word r.moment duration
  pub back : (s : State) (z : Slot) → put_in s z (action_from word r.moment duration) ≡ after_set_action s z r (action_kind_of r.kind)
  pub small : r.kind ≤ 2
