-- The places of a state, weighed: how queueing, adding, taking and stamping leave each record number as often as it was.
use Rattle.std.specs.Prelude.{ℕ, suc, ◌+◌, ◌-◌, ◌≤◌, ◌<◌, ◌≡◌, refl, Bool, true, false, ltb, length, if◌then◌else◌}
use Rattle.std.proofs.Common.{sym, ap, ◌∙◌, arith}
use mathlib.Core.List.{List, [], ◌∷◌, ◌++◌, tail, head?}
use Rattle.std.proofs.Math.Option.{some, none-ne-some, some-injective}
use Rattle.rules.specs.Basics.{before, rank, Side, client, server}
use Rattle.rules.specs.State.{Event, Held, in_record, Aggregate, Chain, base, blocking, bypassable, internal, Queues, SideState, State, queue, with_stamps, side, with_side, with_aggregates, with_free, free_place, side_used, used}
use Rattle.rules.specs.ChoiceHeads.{Head}
use Rattle.rules.specs.Queueing.{insert, push_side, put_event, push_event, chain_of}
use Rattle.rules.specs.Aggregates.{insert_aggregate, add_aggregate, add_aggregates}
use Rattle.rules.specs.ChoiceRound.{pop_side, lift_event, take_event}
use Rattle.rules.specs.NetworkStep.{stamps_kept, free_with_evicted, stamped, stamp}
use Rattle.laws.specs.Branches.{by_if}
use Rattle.laws.specs.Heads.{HeadOf}

-- ---- the places of a state, weighed by any weight of a record number. With weight 1 for each it is the number of records; with weight 1 for
-- r alone it says how often r stands there.

-- the free ones
abbrev pub weigh_free : (ℕ → ℕ) → List ℕ → ℕ
weigh_free w [] = 0
weigh_free w (p ∷ l) = w p + weigh_free w l

-- what stands in a chain
abbrev pub weigh_list : {A : Type 0} → (ℕ → ℕ) → List (Held A) → ℕ
weigh_list w [] = 0
weigh_list w (x ∷ l) = w x.place + weigh_list w l

-- the five chains of a side
abbrev pub weigh_side : (ℕ → ℕ) → SideState → ℕ
weigh_side w x =
    weigh_list w x.queues.base
    + weigh_list w x.queues.blocking
    + weigh_list w x.queues.bypassable
    + weigh_list w x.queues.internal
    + weigh_list w x.stamps

-- all of them
unfoldable pub weigh : (ℕ → ℕ) → State → ℕ
weigh w s = weigh_side w s.client + weigh_side w s.server + weigh_list w s.aggregates + weigh_free w s.free

-- the same records, each as often
abbrev pub Same : State → State → Type 0
Same s t = (w : ℕ → ℕ) → weigh w t ≡ weigh w s

-- one after the other
pub same_then : (s t u : State) → Same s t → Same t u → Same s u
same_then s t u a b = λ w. b w ∙ a w

-- ---- weight 1 for each: used and free records

-- in a chain as many as are there
pub ones_list : {A : Type 0} (l : List (Held A)) → weigh_list (λ (p : ℕ). 1) l ≡ length l
ones_list [] = refl
ones_list (x ∷ l) = omega (arith, ones_list l)

pub ones_free : (l : List ℕ) → weigh_free (λ (p : ℕ). 1) l ≡ length l
ones_free [] = refl
ones_free (x ∷ l) = omega (arith, ones_free l)

ones_side : (x : SideState) → weigh_side (λ (p : ℕ). 1) x ≡ side_used x
ones_side x =
    let q : Queues = x.queues in
    omega (arith, ones_list q.base, ones_list q.blocking, ones_list q.bypassable, ones_list q.internal, ones_list x.stamps)

-- all of them: used and free ones
pub weigh_ones : (s : State) → weigh (λ (p : ℕ). 1) s ≡ used s + length s.free
unfolding weigh used
weigh_ones s = omega (arith, ones_side s.client, ones_side s.server, ones_list s.aggregates, ones_free s.free)

-- the same records are the same number of used and free ones
pub same_number : (s t : State) → Same s t → used t + length t.free ≡ used s + length s.free
same_number s t h = omega (arith, h (λ (p : ℕ). 1), weigh_ones s, weigh_ones t)

-- ---- one part changed

pub weigh_with : (w : ℕ → ℕ) (s : State) (z : Side) (x : SideState) → weigh w (with_side s z x) + weigh_side w (side s z) ≡ weigh w s + weigh_side w x
unfolding weigh
weigh_with w s client x = omega arith
weigh_with w s server x = omega arith

-- the free list given anew
pub weigh_free_lem : (w : ℕ → ℕ) (s : State) (f : List ℕ) → weigh w (with_free s f) + weigh_free w s.free ≡ weigh w s + weigh_free w f
unfolding weigh
weigh_free_lem w s f = omega arith

-- the aggregates given anew
pub weigh_aggregates : (w : ℕ → ℕ) (s : State) (l : List (Held Aggregate)) → weigh w (with_aggregates s l) + weigh_list w s.aggregates ≡ weigh w s + weigh_list w l
unfolding weigh
weigh_aggregates w s l = omega arith

-- a side given anew leaves the free list
pub free_with : (s : State) (z : Side) (x : SideState) → (with_side s z x).free ≡ s.free
free_with s client x = refl
free_with s server x = refl

first_free : (w : ℕ → ℕ) (f : List ℕ) → 0 < length f → w (free_place f) + weigh_free w (tail f) ≡ weigh_free w f
first_free w [] h = absurd (omega arith)
first_free w (p ∷ f) h = refl

tail_free : (f : List ℕ) → 0 < length f → suc (length (tail f)) ≡ length f
tail_free [] h = absurd (omega arith)
tail_free (p ∷ f) h = refl

-- a chain without its first has its record no more
pub weigh_tail : {A : Type 0} (w : ℕ → ℕ) (l : List (Held A)) (a : Held A) → head? l ≡ some a → w a.place + weigh_list w (tail l) ≡ weigh_list w l
weigh_tail w [] a h = absurd (none-ne-some a h)
weigh_tail {A} w (x ∷ l) a h = ap (λ (v : Held A). w v.place + weigh_list w l) (sym (some-injective x a h))

-- ---- an event queued

weigh_insert : (w : ℕ → ℕ) (e : Held Event) (l : List (Held Event)) → weigh_list w (insert e l) ≡ w e.place + weigh_list w l
weigh_insert w e [] = refl
weigh_insert w e (x ∷ l) =
    by_if
    (λ (m : List (Held Event)). weigh_list w m ≡ w e.place + (w x.place + weigh_list w l))
    (before e.value.moment (rank e.value.kind) x.value.moment (rank x.value.kind))
    refl
    (omega (arith, weigh_insert w e l))

weigh_push_side : (w : ℕ → ℕ) (x : SideState) (c : Chain) (e : Held Event) → weigh_side w (push_side x c e) ≡ w e.place + weigh_side w x
weigh_push_side w x base e = omega (arith, weigh_insert w e x.queues.base)
weigh_push_side w x blocking e = omega (arith, weigh_insert w e x.queues.blocking)
weigh_push_side w x bypassable e = omega (arith, weigh_insert w e x.queues.bypassable)
weigh_push_side w x internal e = omega (arith, weigh_insert w e x.queues.internal)

weigh_put : (w : ℕ → ℕ) (s : State) (e : Held Event) → weigh w (put_event s e) ≡ w e.place + weigh w s
unfolding put_event
weigh_put w s e =
    let z : Side = e.value.side in
    let x : SideState = push_side (side s z) (chain_of e.value) e in
    omega (arith, weigh_with w s z x, weigh_push_side w (side s z) (chain_of e.value) e)

-- where a record is free
pub push_same : (s : State) (e : Event) → 0 < length s.free → Same s (push_event s e)
unfolding push_event
push_same s e h = λ w.
    let t : State = with_free s (tail s.free) in
    omega (arith, weigh_put w t (in_record (free_place s.free) e), weigh_free_lem w s (tail s.free), first_free w s.free h)

-- ---- aggregates added

weigh_insert_aggregate : (w : ℕ → ℕ) (a : Held Aggregate) (l : List (Held Aggregate)) → weigh_list w (insert_aggregate a l) ≡ w a.place + weigh_list w l
weigh_insert_aggregate w a [] = refl
weigh_insert_aggregate w a (x ∷ l) =
    by_if
    (λ (m : List (Held Aggregate)). weigh_list w m ≡ w a.place + (w x.place + weigh_list w l))
    (ltb a.value.moment x.value.moment)
    refl
    (omega (arith, weigh_insert_aggregate w a l))

add_one_same : (s : State) (a : Aggregate) → 0 < length s.free → Same s (add_aggregate s a)
unfolding add_aggregate
add_one_same s a h = λ w.
    let t : State = with_free s (tail s.free) in
    let v : Held Aggregate = in_record (free_place s.free) a in
    omega (arith, weigh_aggregates w t (insert_aggregate v s.aggregates), weigh_insert_aggregate w v s.aggregates, weigh_free_lem w s (tail s.free), first_free w s.free h)

free_one : (s : State) (a : Aggregate) → 0 < length s.free → suc (length (add_aggregate s a).free) ≡ length s.free
unfolding add_aggregate
free_one s a h = tail_free s.free h

-- where as many are free
pub add_same : (s : State) (new : List Aggregate) → length new ≤ length s.free → Same s (add_aggregates s new)
unfolding add_aggregates
add_same s [] h = λ w. refl
add_same s (a ∷ new) h =
    let g : 0 < length s.free = omega arith in
    same_then s (add_aggregate s a) (add_aggregates (add_aggregate s a) new) (add_one_same s a g) (add_same (add_aggregate s a) new (omega (arith, free_one s a g)))

-- ---- an event taken

weigh_pop_side : (w : ℕ → ℕ) (x : SideState) (c : Chain) (e : Held Event) → head? (queue x.queues c) ≡ some e → w e.place + weigh_side w (pop_side x c) ≡ weigh_side w x
weigh_pop_side w x base e h = omega (arith, weigh_tail w x.queues.base e h)
weigh_pop_side w x blocking e h = omega (arith, weigh_tail w x.queues.blocking e h)
weigh_pop_side w x bypassable e h = omega (arith, weigh_tail w x.queues.bypassable e h)
weigh_pop_side w x internal e h = omega (arith, weigh_tail w x.queues.internal e h)

weigh_lift : (w : ℕ → ℕ) (s : State) (h : Head) → HeadOf s (some h) → w h.place + weigh w (lift_event s h) ≡ weigh w s
unfolding lift_event
weigh_lift w s h g =
    let z : Side = h.event.side in
    omega (arith, weigh_with w s z (pop_side (side s z) h.chain), weigh_pop_side w (side s z) h.chain (in_record h.place h.event) g)

free_lift : (s : State) (h : Head) → (lift_event s h).free ≡ s.free
unfolding lift_event
free_lift s h = free_with s h.event.side (pop_side (side s h.event.side) h.chain)

-- an event that is the first of its chain gives its record back
pub take_same : (s : State) (h : Head) → HeadOf s (some h) → Same s (take_event s h)
unfolding take_event
take_same s h g = λ w.
    omega (arith, weigh_free_lem w (lift_event s h) (h.place ∷ s.free), weigh_lift w s h g, ap (weigh_free w) (free_lift s h))

-- a packet taken over keeps its record
pub move_same : (s : State) (h : Head) (e : Event) → HeadOf s (some h) → Same s (put_event (lift_event s h) (in_record h.place e))
move_same s h e g = λ w. omega (arith, weigh_put w (lift_event s h) (in_record h.place e), weigh_lift w s h g)

-- ---- a stamp: the old ones given back, one taken

weigh_append : {A : Type 0} (w : ℕ → ℕ) (l m : List (Held A)) → weigh_list w (l ++ m) ≡ weigh_list w l + weigh_list w m
weigh_append w [] m = omega arith
weigh_append w (x ∷ l) m = omega (arith, weigh_append w l m)

-- the stamps that go and their records
pub weigh_evict : (w : ℕ → ℕ) (n now : ℕ) (l : List (Held ℕ)) (f : List ℕ) → weigh_list w (stamps_kept n now l) + weigh_free w (free_with_evicted n now l f) ≡ weigh_list w l + weigh_free w f
weigh_evict w n now [] f = refl
weigh_evict w n now (t ∷ l) f = go (ltb n (now - t.value)) (weigh_evict w n now l (t.place ∷ f))
  where
    go :
        (b : Bool) → weigh_list w (stamps_kept n now l) + weigh_free w (free_with_evicted n now l (t.place ∷ f)) ≡ weigh_list w l + (w t.place + weigh_free w f)
        → weigh_list w (if b then stamps_kept n now l else t ∷ l) + weigh_free w (if b then free_with_evicted n now l (t.place ∷ f) else f)
        ≡ (w t.place + weigh_list w l) + weigh_free w f
    go true ih = omega arith
    go false ih = refl

-- the free records once the old stamps of the side are given back
abbrev pub freed : State → Side → ℕ → List ℕ
freed s z now = free_with_evicted s.settings.window now (side s z).stamps s.free

-- where a record is free once the old stamps are given back
pub stamp_same : (s : State) (z : Side) (now : ℕ) → 0 < length (freed s z now) → Same s (stamp s z now)
unfolding stamp
stamp_same s z now h = λ w.
    let x : SideState = side s z in
    let n : ℕ = s.settings.window in
    let f : List ℕ = freed s z now in
    let v : Held ℕ = in_record (free_place f) now in
    let y : SideState = with_stamps x (stamped n now x.stamps s.free) in
    omega (arith, weigh_free_lem w (with_side s z y) (tail f), ap (weigh_free w) (free_with s z y), weigh_with w s z y, weigh_append w (stamps_kept n now x.stamps) (v ∷ []), weigh_evict w n now x.stamps s.free, first_free w f h)
