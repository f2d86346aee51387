-- What a round takes up is there: an aggregate is the first, a block is set, a timer and an action stand in their slot.
use Rattle.std.specs.Prelude.{ℕ, suc, ◌+◌, ◌≡◌, refl, eqb, ltb, get_or}
use Rattle.std.proofs.Common.{ap, eqb-true}
use mathlib.Core.List.{List, [], ◌∷◌, head?}
use Rattle.std.proofs.Math.Option.{Option, none, some, map}
use Rattle.rules.specs.Basics.{Delay, after, absent}
use Rattle.rules.specs.State.{State, side}
use Rattle.rules.specs.ChoiceDelays.{Delays, delays, Block, first_block, next_block, offered}
use Rattle.rules.specs.ChoiceRound.{Slot, slot_at, slot_of, Candidate, an_aggregate, a_block, an_event, a_timer, an_action, none_left, or_none, due_timer, due_action, action_in, action_from, action_slot, aggregate_first, block_first, event_first, timer_first, first_fitting, candidate}
use Rattle.laws.specs.Branches.{by_if, by_test}

-- what the candidate carries is there
abbrev pub Found : State → Candidate → Type 0
Found s (an_aggregate a) = head? s.aggregates ≡ some a
Found s (a_block k) = (side s k.side).block_end ≡ some k.end
Found s (an_event h) = Unit
Found s (a_timer z t) = get_or (side s z.side).timers z.machine none ≡ some t
Found s (an_action z a) = action_in s z ≡ some a
Found s none_left = Unit

-- an answer that may be missing is found if it is found wherever it is there
found_or : {A : Type 0} (s : State) (f : A → Candidate) (o : Option A) → ((a : A) → o ≡ some a → Found s (f a)) → Found s (or_none f o)
found_or s f none h = tt
found_or s f (some a) h = h a refl

-- the next block is one that is set
pub found_block : (s : State) → Found s (or_none a_block (next_block s))
found_block s = go s.client.block_end refl s.server.block_end refl
  where
    go : (c : Option ℕ) → s.client.block_end ≡ c → (r : Option ℕ) → s.server.block_end ≡ r → Found s (or_none a_block (first_block c r))
    go none hc none hr = tt
    go (some c) hc none hr = hc
    go none hc (some r) hr = hr
    go (some c) hc (some r) hr = by_if (λ (o : Option Block). Found s (or_none a_block o)) (ltb c r) hc hr

-- the slot that is found has the moment
abbrev pub At : List (Option ℕ) → ℕ → Option ℕ → Type 0
At l t none = Unit
At l t (some m) = get_or l m none ≡ some t

at_suc : (x : Option ℕ) (l : List (Option ℕ)) (t : ℕ) (o : Option ℕ) → At l t o → At (x ∷ l) t (map suc o)
at_suc x l t none h = tt
at_suc x l t (some m) h = h

-- the lowest slot with the moment has it
pub slot_at_lem : (t : ℕ) (l : List (Option ℕ)) → At l t (slot_at t l)
slot_at_lem t [] = tt
slot_at_lem t (none ∷ l) = at_suc none l t (slot_at t l) (slot_at_lem t l)
slot_at_lem t (some u ∷ l) =
    by_test
    (At (some u ∷ l) t)
    (eqb u t)
    (λ e. ap some (eqb-true u t e))
    (λ e. at_suc (some u) l t (slot_at t l) (slot_at_lem t l))

found_timer : (s : State) (now : ℕ) (d : Delay) → Found s (due_timer s now d)
found_timer s now absent = tt
found_timer s now (after d) = go (slot_at (now + d) s.client.timers) (slot_at_lem (now + d) s.client.timers) (slot_at (now + d) s.server.timers) (slot_at_lem (now + d) s.server.timers)
  where
    go :
        (c : Option ℕ) → At s.client.timers (now + d) c → (r : Option ℕ) → At s.server.timers (now + d) r
        → Found s (or_none (λ (z : Slot). a_timer z (now + d)) (slot_of c r))
    go (some m) hc r hr = hc
    go none hc (some m) hr = hr
    go none hc none hr = tt

found_action : (s : State) (now : ℕ) (d : Delay) → Found s (due_action s now d)
found_action s now absent = tt
found_action s now (after d) =
    found_or s (action_from s) (action_slot s (now + d)) (λ z h. found_or s (an_action z) (action_in s z) (λ a g. g))

found_first : (s : State) (now : ℕ) (d : Delays) → Found s (first_fitting s now d)
found_first s now d =
    by_if
    (Found s)
    (aggregate_first d)
    (found_or s an_aggregate (head? s.aggregates) (λ a h. h))
    (by_if
    (Found s)
    (block_first d)
    (found_block s)
    (by_if
    (Found s)
    (event_first d)
    (found_or s an_event (offered s now) (λ h g. tt))
    (by_if (Found s) (timer_first d) (found_timer s now d.i) (found_action s now d.s))))

-- what a round takes up is there
pub found : (s : State) (now : ℕ) → Found s (candidate s now)
unfolding candidate
found s now = found_first s now (delays s now)
