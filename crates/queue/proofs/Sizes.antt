-- The counts of the words as lengths of the state's lists, one change after another, and the rules' event of one handed in. Assumes nothing.
use Prim.Native.Nat.{ℕ, ◌+◌, ◌*◌, ◌<◌}
use mathlib.Core.Path.{◌≡◌, refl, sym, ap, ◌∙◌}
use mathlib.Core.Bool.{Bool, true, false}
use mathlib.Core.List.{List, map}
use native.Mathlib.Omega.{arith}
use lib.ListN.{length, take, drop}
use Rattle.rules.specs.Arguments.{event_of}
use Rattle.std.specs.Prelude.{if◌then◌else◌}
use Rattle.rules.specs.Basics.{has_machine, Side, client, server}
use Rattle.rules.specs.State.{Chain, State, base, blocking, bypassable, internal, queue, side}
use Rattle.event.specs.HandedIn.{event_in}
use Rattle.event.specs.declared.SimEvent.{SimEvent}
use Rattle.queue_event.specs.Chain.{Node}
use Rattle.layout.specs.Layout.{held_aggregate, held_event, held_stamp, place_of, state_from, state_of}
use Rattle.event.specs.Values.{kind_at, event_value}
use Rattle.layout.specs.Changes.{chain_no, side_no}
use Rattle.layout.proofs.Banks.{chains_at}
use Rattle.layout.proofs.Counts.{length_map, length_nodes}
use Rattle.layout.proofs.TwoChains.{queue_built}
use Rattle.queue.specs.Changes.{Leaves, chains_in, count_in, head_in}
use Rattle.queue.specs.Pushes.{Canonical}
use Rattle.queue.proofs.Pushing.{machine_is}

-- ---- lengths

held_length : {B : Type 0} (w : List ℕ) (k : ℕ) (f : Node → B) → k < 12 → length (map f (chains_in w k)) ≡ count_in w k
held_length w k f l =
    length_map f (chains_in w k) ∙ ap length (chains_at (take 256 w) (drop 256 w) k l) ∙ length_nodes (drop 256 w) (count_in w k) (head_in w k)

pub free_length : (w : List ℕ) → length (state_of w).free ≡ count_in w 0
unfolding state_from
free_length w = held_length w 0 place_of (omega arith)

pub aggregates_length : (w : List ℕ) → length (state_of w).aggregates ≡ count_in w 11
unfolding state_from
aggregates_length w = held_length w 11 held_aggregate (omega arith)

pub stamps_length : (w : List ℕ) (z : Side) → length (side (state_of w) z).stamps ≡ count_in w (5 + 5 * side_no z)
unfolding state_from
stamps_length w client = held_length w 5 held_stamp (omega arith)
stamps_length w server = held_length w 10 held_stamp (omega arith)

chain_small : (z : Side) (c : Chain) → chain_no z c < 12
chain_small client base = omega arith
chain_small client blocking = omega arith
chain_small client bypassable = omega arith
chain_small client internal = omega arith
chain_small server base = omega arith
chain_small server blocking = omega arith
chain_small server bypassable = omega arith
chain_small server internal = omega arith

pub queue_length : (w : List ℕ) (z : Side) (c : Chain) → length (queue (side (state_of w) z).queues c) ≡ count_in w (chain_no z c)
queue_length w z c = ap length (queue_built (take 256 w) (drop 256 w) z c) ∙ held_length w (chain_no z c) (held_event z) (chain_small z c)

-- ---- one change after another

pub leaves_then : (w v left : List ℕ) (s s' : State) → Leaves w v s → Leaves v left s' → Leaves w left s'
leaves_then w v left s s' a b =
    record { shaped = b.shaped; state = b.state; size = b.size ∙ a.size; beside = λ i l o. b.beside i l o ∙ a.beside i l o }

-- ---- an event handed in, once the machine of a kind without one is 0

pub event_in_lem : (e : SimEvent) → Canonical e → event_of (event_in e) (kind_at e.kind.0) ≡ event_value e
event_in_lem e can = λ d.
    record { kind = kind_at e.kind.0; moment = e.moment.0; delay = e.delay.0; side = (event_value e).side; padding = e.padding; bypass = e.bypass; replace = e.replace; machine = kept d }
  where
    go : (b : Bool) → (b ≡ false → e.machine ≡ 0) → (if b then e.machine else 0) ≡ e.machine
    go true f = refl
    go false f = sym (f refl)

    kept : (if has_machine (kind_at e.kind.0) then e.machine else 0) ≡ e.machine
    kept = go (has_machine (kind_at e.kind.0)) (λ q. can.none (machine_is e.kind.0 ∙ q))
