-- Document 01, "One network step": `sim_network_stack`, kind by kind, "on an event and a time that the call hands in".
use Rattle.std.specs.Prelude.{◌*◌, ◌+◌, ◌-◌, ◌/◌, max, ℕ, Bool, ◌&&◌, false, true, length, leb, ltb, if◌then◌else◌}
use mathlib.Core.List.{List, [], ◌++◌, ◌∷◌, map, tail}
use Rattle.std.proofs.Math.Option.{Option, none, some}
use Rattle.rules.specs.State.{Aggregate, Event, Held, SideState, State, free_place, in_record, side, with_free, with_side, with_stamps}
use Rattle.rules.specs.Basics.{BlockingBegin, BlockingEnd, Kind, NormalRecv, NormalSent, PaddingRecv, PaddingSent, Side, TimerBegin, TimerEnd, TunnelRecv, TunnelSent, other}
use Rattle.rules.specs.Limits.{moment_limit}
use Rattle.rules.specs.ChoiceHeads.{Head, waiting_head}
use Rattle.rules.specs.Aggregates.{add_aggregates, aggregates_of, on_delayed, on_replace, test_sums}
use Rattle.rules.specs.ChoiceRound.{lift_event}
use Rattle.rules.specs.Queueing.{push_event, put_event}

-- what a step gives if no sum had a limit: yes or no, when the packet count falls, the state left, and the sums that it forms
pub record Stepped : Type 0 where
  pub answer : Bool
  pub falls : Option ℕ
  pub state : State
  pub sums : List ℕ

-- an event of a kind without a machine
abbrev pub packet : Kind → ℕ → ℕ → Side → Bool → Bool → Bool → Event
packet k t d z padded bypass replace =
    record { kind = k; moment = t; delay = d; side = z; padding = padded; bypass = bypass; replace = replace; machine = 0 }

-- the step changes nothing
abbrev pub unmoved : State → Bool → Stepped
unmoved s a = record { answer = a; falls = none; state = s; sums = [] }

-- the step queues one event
abbrev pub queueing : State → Bool → Event → Stepped
queueing s a e = record { answer = a; falls = none; state = push_event s e; sums = [] }

-- ---- `PaddingSent`

-- queued as a `TunnelSent` of its own
abbrev pub as_padding : State → Event → Stepped
as_padding s e = queueing s false (packet TunnelSent e.moment e.delay e.side true e.bypass e.replace)

-- the waiting packet w in the place of the padding: its bypass flag is set, so that it stands in the bypassable queue, its replace flag is not
abbrev pub let_pass : Event → Event
let_pass w = record { kind = w.kind; moment = w.moment; delay = w.delay; side = w.side; padding = w.padding; bypass = true; replace = false; machine = w.machine }

-- the packet taken over leaves its queue, is tested for an aggregate, and arrives anew with the record that it has
unfoldable pub replace_by : State → ℕ → Head → Stepped
replace_by s now h =
    let w : Event = h.event in
    let t : State = lift_event s h in
    let x : SideState = side t w.side in
    let new : List Aggregate = aggregates_of s.settings.network_delay w.side now (on_replace x now w.moment) in
    record { answer = false; falls = none; state = add_aggregates (put_event t (in_record h.place (let_pass w))) new; sums = test_sums x x.sum w.moment ++ map (λ (a : Aggregate). a.moment) new }

-- the replace flag is set, and the first waiting packet is given. Padding replaces nothing that is padding; without the bypass flag nothing changes
abbrev pub replacing : State → ℕ → Event → Option Head → Stepped
replacing s now e none = as_padding s e
replacing s now e (some h) =
    if h.event.padding then as_padding s e else if e.bypass then replace_by s now h else unmoved s false

-- no block is needed; the side's bypassable flag is read as it stands
unfoldable pub step_padding : State → ℕ → Event → Stepped
step_padding s now e =
    if e.replace then replacing s now e (waiting_head (side s e.side).block_bypassable (side s e.side)) else as_padding s e

-- ---- `TunnelSent`

-- `WindowCount::add`: the oldest stamps that are more than the window old go, and these are kept; one whose age equals the window stays
abbrev pub stamps_kept : ℕ → ℕ → List (Held ℕ) → List (Held ℕ)
stamps_kept window now [] = []
stamps_kept window now (t ∷ l) = if ltb window (now - t.value) then stamps_kept window now l else t ∷ l

-- the free records with those of the stamps that go: given back, the oldest first
abbrev pub free_with_evicted : ℕ → ℕ → List (Held ℕ) → List ℕ → List ℕ
free_with_evicted window now [] f = f
free_with_evicted window now (t ∷ l) f = if ltb window (now - t.value) then free_with_evicted window now l (t.place ∷ f) else f

-- then the new stamp takes one; "stamps by arrival"
abbrev pub stamped : ℕ → ℕ → List (Held ℕ) → List ℕ → List (Held ℕ)
stamped window now l f = stamps_kept window now l ++ (in_record (free_place (free_with_evicted window now l f)) now ∷ [])

-- "`TunnelSent` adds a stamp first": the step's time
unfoldable pub stamp : State → Side → ℕ → State
stamp s z now =
    let x : SideState = side s z in
    let w : ℕ = s.settings.window in
    with_free (with_side s z (with_stamps x (stamped w now x.stamps s.free))) (tail (free_with_evicted w now x.stamps s.free))

-- the first moment at which a stamp at t "would be too old, which is that stamp plus the window plus 1"; "A moment past the limit is reported as absent
-- and refuses nothing."
abbrev pub too_old_from : ℕ → ℕ → Option ℕ
too_old_from window t = if leb (t + window + 1) moment_limit then some (t + window + 1) else none

-- when the packet count falls: the same of the "oldest kept stamp by arrival", which is the first
abbrev pub count_falls : ℕ → List (Held ℕ) → Option ℕ
count_falls window [] = none
count_falls window (t ∷ l) = too_old_from window t.value

-- "Adding a stamp must tell, beside the count," when it falls: both of the stamps that then stand, the new one with them
pub record Window : Type 0 where
  pub count : ℕ
  pub falls : Option ℕ

abbrev pub stamp_tells : ℕ → List (Held ℕ) → Window
stamp_tells window l = record { count = length l; falls = count_falls window l }

-- "Network rate, else queue rate, else no limit."
abbrev pub rate_of : Option ℕ → Option ℕ → Option ℕ
rate_of (some p) r = some p
rate_of none r = r

-- "a count c above the packet limit p gives extra delay (window div p) times (c − p)"
abbrev pub extra_over : ℕ → ℕ → Option ℕ → ℕ
extra_over window c none = 0
extra_over window c (some p) = if ltb p c then (window / p) * (c - p) else 0

-- when the packet is reported at the recipient; a packet that is not padding is lifted to the step's time
abbrev pub reported : Event → ℕ → ℕ → ℕ → ℕ
reported e now network reporting =
    if e.padding then e.moment + e.delay + network + reporting else max (e.moment - e.delay + network + reporting) now

-- a delayed packet is tested for an aggregate; "the aggregate test uses the client's sum on both sides". "The network step hands this on for `TunnelSent`"
unfoldable pub step_tunnel : State → ℕ → Event → Stepped
step_tunnel s now e =
    let x : SideState = side s e.side in
    let t₀ : State = stamp s e.side now in
    let told : Window = stamp_tells s.settings.window (side t₀ e.side).stamps in
    let extra : ℕ = extra_over s.settings.window told.count (rate_of s.settings.network_rate s.settings.queue_rate) in
    let tested : Bool = ltb 0 extra in
    let new : List Aggregate =
    aggregates_of s.settings.network_delay e.side now (if tested && on_delayed x s.client.sum e.moment then some extra else none) in
    let r : ℕ = (side s (other e.side)).fixed.reporting_delay in
    let t : ℕ = reported e now (extra + s.settings.network_delay) r in
    record {
      answer = true;
      falls = told.falls;
      state = push_event (add_aggregates t₀ new) (packet TunnelRecv t r (other e.side) e.padding false false);
      sums = (if tested then test_sums x s.client.sum e.moment else []) ++ map (λ (a : Aggregate). a.moment) new ++ (t ∷ []);
    }

-- ---- the step, kind by kind: yes for `TunnelSent` and `TunnelRecv`, else no; "for other kinds it says that there is no such moment"

unfoldable pub step_for : Kind → State → ℕ → Event → Stepped
step_for TunnelSent s now e = step_tunnel s now e
step_for NormalSent s now e = queueing s false (packet TunnelSent e.moment e.delay e.side false false false)
step_for PaddingSent s now e = step_padding s now e
step_for TunnelRecv s now e =
    queueing s true (packet (if e.padding then PaddingRecv else NormalRecv) e.moment e.delay e.side e.padding false false)
step_for NormalRecv s now e = unmoved s false
step_for PaddingRecv s now e = unmoved s false
step_for BlockingBegin s now e = unmoved s false
step_for BlockingEnd s now e = unmoved s false
step_for TimerBegin s now e = unmoved s false
step_for TimerEnd s now e = unmoved s false

-- of an event, by its kind: `sim_network_stack`
abbrev pub step : State → ℕ → Event → Stepped
step s now e = step_for e.kind s now e
