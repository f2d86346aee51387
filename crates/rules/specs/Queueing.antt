-- Document 01, "The state": the chain that an event goes to, its place there, and the record that it takes.
use Rattle.std.specs.Prelude.{Bool, if◌then◌else◌}
use mathlib.Core.List.{List, [], ◌∷◌, tail}
use Rattle.rules.specs.State.{Chain, Event, Held, SideState, State, base, blocking, bypassable, free_place, in_record, internal, queue, side, with_free, with_queue, with_queues, with_side}
use Rattle.rules.specs.Basics.{before, rank, BlockingBegin, BlockingEnd, Kind, NormalRecv, NormalSent, PaddingRecv, PaddingSent, TimerBegin, TimerEnd, TunnelRecv, TunnelSent}

-- "`TunnelSent` goes to bypassable if its bypass flag is set, else to blocking; `NormalSent` to base; all else to internal."
abbrev pub chain_for : Kind → Bool → Chain
chain_for TunnelSent flag = if flag then bypassable else blocking
chain_for NormalSent flag = base
chain_for PaddingSent flag = internal
chain_for TunnelRecv flag = internal
chain_for NormalRecv flag = internal
chain_for PaddingRecv flag = internal
chain_for BlockingBegin flag = internal
chain_for BlockingEnd flag = internal
chain_for TimerBegin flag = internal
chain_for TimerEnd flag = internal

-- by its kind and its bypass flag
abbrev pub chain_of : Event → Chain
chain_of e = chain_for e.kind e.bypass

-- the order within a chain, "by moment, then rank": whether a newly arrived event goes before one that is there
abbrev pub goes_before : Event → Event → Bool
goes_before new old = before new.moment (rank new.kind) old.moment (rank old.kind)

-- "Event chains run by moment, then rank, then arrival"
abbrev pub insert : Held Event → List (Held Event) → List (Held Event)
insert e [] = e ∷ []
insert e (x ∷ l) = if goes_before e.value x.value then e ∷ x ∷ l else x ∷ insert e l

-- a side with the event in the chain named
abbrev pub push_side : SideState → Chain → Held Event → SideState
push_side x c e = with_queues x (with_queue x.queues c (insert e (queue x.queues c)))

-- an event that has its record goes into its chain
unfoldable pub put_event : State → Held Event → State
put_event s e = with_side s e.value.side (push_side (side s e.value.side) (chain_of e.value) e)

-- a new event takes the first free record: `push_sim`
unfoldable pub push_event : State → Event → State
push_event s e = put_event (with_free s (tail s.free)) (in_record (free_place s.free) e)
