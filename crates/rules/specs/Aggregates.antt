-- The three aggregate tests of `delay.rs`, `push_aggregate_delay` of `network.rs`, and the chain of pending aggregates of document 01.
use Rattle.std.specs.Prelude.{◌*◌, ◌+◌, ◌-◌, max, ℕ, Bool, ◌&&◌, ◌||◌, false, not, eqb, leb, ltb, length, if◌then◌else◌}
use mathlib.Core.List.{List, [], ◌++◌, ◌∷◌, tail}
use Rattle.std.proofs.Math.Option.{Option, none, some}
use Rattle.rules.specs.State.{Aggregate, Event, Held, SideState, State, free_place, in_record, with_aggregates, with_free}
use Rattle.rules.specs.Basics.{Side, client, server}

-- the margins of `delay.rs`: 1 ms about the tail of a burst, 1 ms to the base trace, 100 ms to an adjacent packet
abbrev pub buffer_window : ℕ
buffer_window = 1_000_000

abbrev pub base_window : ℕ
base_window = 1_000_000

abbrev pub adjacent_window : ℕ
adjacent_window = 100_000_000

-- the packets that wait: both queues of `TunnelSent`
abbrev pub waiting : SideState → List (Held Event)
waiting x = x.queues.blocking ++ x.queues.bypassable

-- the base head's moment plus sum, if there is a base head
abbrev pub base_moment : ℕ → List (Held Event) → Option ℕ
base_moment sum [] = none
base_moment sum (e ∷ l) = some (e.value.moment + sum)

-- a moment t, if any, is at most width since u
abbrev pub within : ℕ → ℕ → Option ℕ → Bool
within width u none = false
within width u (some t) = leb (t - u) width

-- some packet's moment is at most width since u; an earlier one is too, since t since u is then 0
abbrev pub any_within : ℕ → ℕ → List (Held Event) → Bool
any_within width u [] = false
any_within width u (e ∷ l) = leb (e.value.moment - u) width || any_within width u l

-- the latest moment of the packets at most 1 ms since u, at least t
abbrev pub tail_of : ℕ → ℕ → List (Held Event) → ℕ
tail_of u t [] = t
tail_of u t (e ∷ l) = tail_of u (if leb (e.value.moment - u) buffer_window then max t e.value.moment else t) l

-- the tail of the burst that waits since u; it takes three packets to look for it
abbrev pub burst_tail : SideState → ℕ → ℕ
burst_tail x u = if ltb 2 (length (waiting x)) then tail_of u u (waiting x) else u

-- `agg_delay_on_blocking_expire`: a block ends while the first packet waits since u. None if the tail is at the end moment, or the base trace is
-- within 1 ms; a tail after the end gives 0
unfoldable pub on_expire : SideState → ℕ → ℕ → Option ℕ
on_expire x end u =
    let t : ℕ = burst_tail x u in
    if eqb end t then none
    else if within base_window u (base_moment x.sum x.queues.base) then none else some (end - t)

-- `agg_delay_on_padding_bypass_replace`: padding is replaced by a packet of moment u, which is out of its queue
unfoldable pub on_replace : SideState → ℕ → ℕ → Option ℕ
on_replace x now u =
    if any_within adjacent_window u (waiting x) then none
    else if within base_window u (base_moment x.sum x.queues.base) then none else some (now - u)

-- `should_delayed_packet_prop_agg_delay`: a rate limit delays a packet of moment u
unfoldable pub on_delayed : SideState → ℕ → ℕ → Bool
on_delayed x sum u =
    not (any_within adjacent_window u (waiting x)) && not (within base_window u (base_moment sum x.queues.base))

-- a sum that may not be formed, as a list: "a side without a base head forms none"
abbrev pub some_sum : Option ℕ → List ℕ
some_sum none = []
some_sum (some n) = n ∷ []

-- the sum that the last two tests form: "not past an early return"
abbrev pub test_sums : SideState → ℕ → ℕ → List ℕ
test_sums x sum u = if any_within adjacent_window u (waiting x) then [] else some_sum (base_moment sum x.queues.base)

-- `push_aggregate_delay`: a delay of length len at a side's end, at the moment given, with network delay d. One record for each side's sum, the
-- client's first; its moment is lowered by the length, to the moment given at the least. AggregateMoments says the same as plain cases
unfoldable pub aggregates_of : ℕ → Side → ℕ → Option ℕ → List Aggregate
aggregates_of d z at none = []
aggregates_of d client at (some len) =
    record { moment = at + (4 * d - len); length = len; side = client } ∷ record { moment = at + (3 * d - len); length = len; side = server } ∷ []
aggregates_of d server at (some len) =
    record { moment = at + (d - len); length = len; side = client } ∷ record { moment = at + (4 * d - len); length = len; side = server } ∷ []

-- "aggregates by moment, then arrival"
abbrev pub insert_aggregate : Held Aggregate → List (Held Aggregate) → List (Held Aggregate)
insert_aggregate a [] = a ∷ []
insert_aggregate a (x ∷ l) = if ltb a.value.moment x.value.moment then a ∷ x ∷ l else x ∷ insert_aggregate a l

-- an aggregate takes the first free record
unfoldable pub add_aggregate : State → Aggregate → State
add_aggregate s a = with_aggregates (with_free s (tail s.free)) (insert_aggregate (in_record (free_place s.free) a) s.aggregates)

-- and each of a list, in its order
unfoldable pub add_aggregates : State → List Aggregate → State
add_aggregates s [] = s
add_aggregates s (a ∷ new) = add_aggregates (add_aggregate s a) new
