-- The state held after a record is queued, appended or given back: the rules' own operations. Assumes nothing.
use Prim.Native.Nat.{ℕ, ◌+◌, ◌*◌, ◌%◌, ◌<◌}
use mathlib.Core.Path.{◌≡◌, refl, sym, ap, ap₂, ◌∙◌}
use mathlib.Core.Bool.{Bool, true, false, not, ◌&&◌, ◌||◌}
use mathlib.Core.List.{List, [], ◌∷◌, ◌++◌, map, tail}
use native.Mathlib.Omega.{arith}
use lib.Dec.{ltb, eqb}
use lib.ListN.{take, drop}
use Rattle.std.specs.Prelude.{if◌then◌else◌}
use Rattle.rules.specs.Basics.{Side, client, server}
use Rattle.rules.specs.State.{in_record, Chain, State, side, with_side, with_queue, with_queues, with_stamps, with_aggregates, with_free, free_place, queue}
use Rattle.rules.specs.Queueing.{chain_of, insert, push_event}
use Rattle.rules.specs.Aggregates.{insert_aggregate, add_aggregate}
use Rattle.rules.specs.ChoiceHeads.{Head}
use Rattle.rules.specs.ChoiceRound.{lift_event, take_event}
use Rattle.queue_event.specs.Chain.{pick, rank_of, Node}
use Rattle.queue_event.specs.Tag.{mark_of, kind_field}
use Rattle.queue_event.specs.Links.{fresh}
use Rattle.queue_event.specs.Order.{stays, insert_sorted}
use Rattle.layout.specs.Layout.{event_from, aggregate_from, held_event, held_aggregate, held_stamp, place_of, state_from, state_of}
use Rattle.layout.specs.Shape.{Shapes}
use Rattle.layout.specs.Changes.{side_no, chain_no, with_chain}
use Rattle.layout.proofs.PushPop.{push_is}
use Rattle.layout.proofs.Order.{insert_map}
use Rattle.layout.proofs.TwoChains.{queue_built}
use Rattle.layout.proofs.ShapeChains.{shapes_ranked, aggregate_rank}
use Rattle.queue.specs.Changes.{Queued, AppendedTo, Released, MayTake, MayRelease, head_in, chains_in}
use Rattle.queue.specs.Stamps.{first_place, drop_aggregate, drop_stamp, add_stamp}
use Rattle.queue.proofs.Changing.{shaped_records, first_is}
use Rattle.queue.proofs.States.{rec_of, map_tail, map_append, free_place_lem, changed_events, changed_aggregates, changed_stamps}

free_tail : (w : List ℕ) → map place_of (tail (chains_in w 0)) ≡ tail (state_of w).free
unfolding state_from
free_tail w = map_tail place_of (chains_in w 0)

free_is : (w : List ℕ) → map place_of (chains_in w 0) ≡ (state_of w).free
unfolding state_from
free_is w = refl

-- ---- events

event_side : (z : Side) (m l t : ℕ) → (event_from z (rec_of m l t)).side ≡ z
unfolding event_from
event_side z m l t = refl

pub queued_event :
    (w left : List ℕ) (m l t : ℕ) → MayTake w l t → Queued w left m l t → (z : Side) (n : Chain) → chain_no z n ≡ mark_of t → rank_of t < 10 → 0 < mark_of t % 5 → mark_of t < 11
    → chain_of (event_from z (rec_of m l t)) ≡ n → state_of left ≡ push_event (state_of w) (event_from z (rec_of m l t))
queued_event w left m l t may c z n ek rk a b en =
    changed_events w left (mark_of t) _ _ c z n ek
    ∙ ap₂ (with_chain (state_of w) z n)
    (insert_map z (fresh (head_in w 0) m l t) (chains_in w (mark_of t)) rk (shapes_ranked (mark_of t) (chains_in w (mark_of t)) a b (shaped_records w may.shaped (mark_of t) may.chain))
    ∙ ap₂ (λ p q. insert (in_record p (event_from z (rec_of m l t))) q)
    (sym (free_place_lem w may.shaped may.free))
    (ap (λ i. map (held_event z) (chains_in w i)) (sym ek) ∙ sym (queue_built (take 256 w) (drop 256 w) z n)))
    (free_tail w)
    ∙ sym (push_is (state_of w) z n (event_from z (rec_of m l t)) (event_side z m l t) en)

take_is : (s : State) (z : Side) (c : Chain) (h : Head) → h.event.side ≡ z → h.chain ≡ c → take_event s h ≡ with_chain s z c (tail (queue (side s z).queues c)) (h.place ∷ s.free)
unfolding take_event lift_event
take_is s z c h p q = λ d. with_free (with_side s (p d) (with_queues (side s (p d)) (with_queue (side s (p d)).queues (q d) (tail (queue (side s (p d)).queues (q d)))))) (h.place ∷ s.free)

-- h is the head of its chain: its side, its chain and its record
pub released_event :
    (w left : List ℕ) (k : ℕ) → Released w left k → (z : Side) (n : Chain) (h : Head) → chain_no z n ≡ k → h.event.side ≡ z → h.chain ≡ n → h.place ≡ head_in w k
    → state_of left ≡ take_event (state_of w) h
unfolding state_from
released_event w left k c z n h ek ez en ep =
    changed_events w left k _ _ c z n ek
    ∙ (λ d. with_chain (state_of w) z n (tails d) (sym ep d ∷ map place_of (chains_in w 0)))
    ∙ sym (take_is (state_of w) z n h ez en)
  where
    tails : map (held_event z) (tail (chains_in w k)) ≡ tail (queue (side (state_of w) z).queues n)
    tails =
        map_tail (held_event z) (chains_in w k) ∙ ap (λ i. tail (map (held_event z) (chains_in w i))) (sym ek)
        ∙ ap tail (sym (queue_built (take 256 w) (drop 256 w) z n))

-- ---- aggregates

stays_zero : (a s b t : ℕ) → rank_of s ≡ 0 → rank_of t ≡ 0 → stays a s b t ≡ not (ltb b a)
unfolding stays
stays_zero a s b t p q = rw (p, q) (go (ltb b a) (eqb b a))
  where
    go : (x y : Bool) → not (x || y && false) ≡ not x
    go true y = refl
    go false true = refl
    go false false = refl

insert_aggregates : (x : Node) (l : List Node) → kind_field x.rec.tag ≡ 0 → Shapes 11 l → map held_aggregate (insert_sorted x l) ≡ insert_aggregate (held_aggregate x) (map held_aggregate l)
unfolding insert_sorted Shapes aggregate_from
insert_aggregates x [] r s = refl
insert_aggregates x (y ∷ l) r s =
    rw (stays_zero y.rec.moment y.rec.tag x.rec.moment x.rec.tag (aggregate_rank y.rec.tag (s.0.aggregate refl).rest) r)
    (go (ltb x.rec.moment y.rec.moment) (insert_aggregates x l r s.1))
  where
    go : (b : Bool) → map held_aggregate (insert_sorted x l) ≡ insert_aggregate (held_aggregate x) (map held_aggregate l)
        → map held_aggregate (pick (not b) (y ∷ insert_sorted x l) (x ∷ y ∷ l)) ≡ (if b then held_aggregate x ∷ held_aggregate y ∷ map held_aggregate l else held_aggregate y ∷ insert_aggregate (held_aggregate x) (map held_aggregate l))
    go true e = refl
    go false e = ap (λ r. held_aggregate y ∷ r) e

pub queued_aggregate :
    (w left : List ℕ) (m l t : ℕ) → MayTake w l t → Queued w left m l t → mark_of t ≡ 11 → state_of left ≡ add_aggregate (state_of w) (aggregate_from (rec_of m l t))
unfolding state_from add_aggregate
queued_aggregate w left m l t may c ek =
    changed_aggregates w left (mark_of t) _ _ c ek
    ∙ (λ d. with_free (with_aggregates (state_of w) (list d)) (free_tail w d))
  where
    canonical : t % 2048 ≡ 11
    canonical = (may.canonical.aggregate ek).rest

    list : map held_aggregate (insert_sorted (fresh (head_in w 0) m l t) (chains_in w (mark_of t))) ≡ insert_aggregate (in_record (free_place (state_of w).free) (aggregate_from (rec_of m l t))) (state_of w).aggregates
    list =
        ap (λ i. map held_aggregate (insert_sorted (fresh (head_in w 0) m l t) (chains_in w i))) ek
        ∙ insert_aggregates (fresh (head_in w 0) m l t) (chains_in w 11) (aggregate_rank t canonical) (shaped_records w may.shaped 11 (omega arith))
        ∙ ap (λ p. insert_aggregate (in_record p (aggregate_from (rec_of m l t))) (state_of w).aggregates) (sym (free_place_lem w may.shaped may.free))

pub released_aggregate : (w left : List ℕ) → MayRelease w 11 → Released w left 11 → state_of left ≡ drop_aggregate (state_of w)
unfolding state_from drop_aggregate
released_aggregate w left may c =
    changed_aggregates w left 11 _ _ c refl
    ∙ (λ d. with_free (with_aggregates (state_of w) (map_tail held_aggregate (chains_in w 11) d)) (place d ∷ map place_of (chains_in w 0)))
  where
    place : head_in w 11 ≡ first_place (map held_aggregate (chains_in w 11))
    place = sym (ap (λ l. first_place (map held_aggregate l)) (first_is w may.shaped 11 (omega arith) may.some))

-- ---- stamps

pub stamps_are : (w : List ℕ) (z : Side) → (side (state_of w) z).stamps ≡ map held_stamp (chains_in w (5 + 5 * side_no z))
unfolding state_from
stamps_are w client = refl
stamps_are w server = refl

pub released_stamp : (w left : List ℕ) (k : ℕ) → MayRelease w k → Released w left k → (z : Side) → 5 + 5 * side_no z ≡ k → state_of left ≡ drop_stamp (state_of w) z
unfolding drop_stamp
released_stamp w left k may c z e =
    changed_stamps w left k _ _ c z e
    ∙ (λ d. with_free (with_side (state_of w) z (with_stamps (side (state_of w) z) (tails d))) (place d ∷ free_is w d))
  where
    stamps : map held_stamp (chains_in w k) ≡ (side (state_of w) z).stamps
    stamps = ap (λ i. map held_stamp (chains_in w i)) (sym e) ∙ sym (stamps_are w z)

    tails : map held_stamp (tail (chains_in w k)) ≡ tail (side (state_of w) z).stamps
    tails = map_tail held_stamp (chains_in w k) ∙ ap tail stamps

    place : head_in w k ≡ first_place (side (state_of w) z).stamps
    place = sym (ap (λ l. first_place (map held_stamp l)) (first_is w may.shaped k may.chain may.some)) ∙ ap first_place stamps

pub appended_stamp : (w left : List ℕ) (m t : ℕ) → MayTake w 0 t → AppendedTo w left m t → (z : Side) → 5 + 5 * side_no z ≡ mark_of t → state_of left ≡ add_stamp (state_of w) z m
unfolding add_stamp
appended_stamp w left m t may c z e =
    changed_stamps w left (mark_of t) _ _ c z e
    ∙ (λ d. with_free (with_side (state_of w) z (with_stamps (side (state_of w) z) (list d))) (free_tail w d))
  where
    list : map held_stamp (chains_in w (mark_of t) ++ (fresh (head_in w 0) m 0 t ∷ [])) ≡ (side (state_of w) z).stamps ++ (in_record (free_place (state_of w).free) m ∷ [])
    list =
        map_append held_stamp (chains_in w (mark_of t)) (fresh (head_in w 0) m 0 t ∷ [])
        ∙ ap₂ (λ l p. l ++ (in_record p m ∷ [])) (ap (λ i. map held_stamp (chains_in w i)) (sym e) ∙ sym (stamps_are w z)) (sym (free_place_lem w may.shaped may.free))
