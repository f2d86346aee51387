-- What a record holds, read as an event of a side and as a pending aggregate. Assumes nothing.
use Rattle.std.specs.Prelude.{Bool}
use Rattle.event.specs.declared.SimEvent.{SimEvent}
use Rattle.event.specs.declared.AggregateDelay.{AggregateDelay}
use Rattle.queue_event.specs.Chain.{Rec}
use Rattle.queue_event.specs.Tag.{kind_field, padding_field, bypass_field, replace_field, side_field, machine_field, flag, is_client}

-- an event's side is its chain's, so it is handed in
abbrev pub read_event : Bool → Rec → SimEvent
read_event client x =
    record {
      kind = record { 0 = kind_field x.tag };
      moment = record { 0 = x.moment };
      delay = record { 0 = x.size };
      client = client;
      padding = flag (padding_field x.tag);
      bypass = flag (bypass_field x.tag);
      replace = flag (replace_field x.tag);
      machine = machine_field x.tag;
    }

abbrev pub read_aggregate : Rec → AggregateDelay
read_aggregate x = record { moment = record { 0 = x.moment }; length = record { 0 = x.size }; client = is_client (side_field x.tag) }
