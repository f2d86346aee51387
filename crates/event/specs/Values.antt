-- A kind's number and an event that travels between functions, as the rules have them. Assumes nothing.
use Rattle.std.specs.Prelude.{ℕ}
use Rattle.std.proofs.Math.Option.{Option, get_or, map}
use Rattle.rules.specs.Basics.{Kind, TunnelSent, kind_of}
use Rattle.rules.specs.State.{Event}
use Rattle.event.specs.HandedIn.{side_of}
use Rattle.event.specs.declared.SimEvent.{SimEvent}

-- the kind of a number; the numbers above 9 are none, and no accepted state and no answer has one
abbrev pub kind_at : ℕ → Kind
kind_at n = get_or (kind_of n) TunnelSent

-- `SimEvent` as an event of this kind: all but its number
abbrev pub with_kind : SimEvent → Kind → Event
with_kind e k =
    record {
      kind = k;
      moment = e.moment.0;
      delay = e.delay.0;
      side = side_of e.client;
      padding = e.padding;
      bypass = e.bypass;
      replace = e.replace;
      machine = e.machine;
    }

-- `SimEvent`: its kind is that of its number. A promise that uses it says of the number that it is a kind's, or names a kind other than TunnelSent
abbrev pub event_value : SimEvent → Event
event_value e = with_kind e (kind_at e.kind.0)

-- the same where the number is a kind's, else none: two that are one event have one number
unfoldable pub known_event : SimEvent → Option Event
known_event e = map (with_kind e) (kind_of e.kind.0)
