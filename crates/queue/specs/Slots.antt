-- What the slot of a machine holds: in the list of a side's, and as it is read from the words. Assumes nothing.
use Rattle.std.specs.Prelude.{ℕ, zero, suc, ◌+◌, ◌*◌, ◌%◌, ◌≡◌, Bool, List, [], ◌∷◌, Some, None}
use Rattle.std.specs.Prelude.{Option as CodeOption}
use Rattle.std.proofs.Math.Option.{Option, none, some}
use Rattle.rules.specs.State.{Action}
use Rattle.rules.specs.ChoiceRound.{Slot as RulesSlot}
use Rattle.event.specs.HandedIn.{side_of}
use Rattle.event.specs.declared.ScheduledAction.{ScheduledAction}
use Rattle.layout.specs.Changes.{side_no}
use Rattle.layout.specs.Header.{action_of}
use Rattle.layout.specs.Layout.{action_kind_at}
use Rattle.queue.specs.declared.header.Slot.{Slot}

-- what slot m holds; none past the last
abbrev pub held_at : List (Option ℕ) → ℕ → Option ℕ
held_at [] m = none
held_at (o ∷ l) zero = o
held_at (o ∷ l) (suc m) = held_at l m

-- a machine of a side
abbrev pub machine_slot : Bool → ℕ → RulesSlot
machine_slot client m = record { side = side_of client; machine = m }

abbrev pub slot_from : Slot → RulesSlot
slot_from z = machine_slot z.client z.machine

-- its number
abbrev pub slot_no : Slot → ℕ
slot_no z = 16 * side_no (side_of z.client) + z.machine

-- `ScheduledAction`: kind 1 is `SendPadding`, 2 `BlockOutgoing`
abbrev pub action_value : ScheduledAction → Action
action_value a = record { kind = action_kind_at a.kind.0; moment = a.moment.0; duration = a.duration.0; bypass = a.bypass; replace = a.replace }

-- an action, or none
abbrev pub action_no : CodeOption ScheduledAction → Option Action
action_no None = none
action_no (Some a) = some (action_value a)

-- the number of the kind in a slot of a side: `action_value` reads more than one number as `BlockOutgoing`
abbrev pub slot_kind : List ℕ → Bool → ℕ → ℕ
slot_kind h client machine = action_of h (16 * side_no (side_of client) + machine) % 4

-- the kind of an action that was read from a slot is that number
unfoldable pub KindIn : List ℕ → Slot → CodeOption ScheduledAction → Type 0
KindIn h z None = Unit {0}
KindIn h z (Some a) = a.kind.0 ≡ slot_kind h z.client z.machine
