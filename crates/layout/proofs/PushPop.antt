-- A record of the free chain goes into an event chain, and the head of an event chain goes to the free chain: the state that the words then hold, and that
-- they stay accepted. Assumes nothing.
use Prim.Native.Nat.{ℕ, suc, ◌-◌, ◌<◌}
use mathlib.Core.Path.{◌≡◌, refl, sym, ap, subst, ◌∙◌}
use mathlib.Core.List.{List, ◌∷◌, tail}
use lib.ListN.{length}
use Rattle.rules.specs.Basics.{Side, client, server}
use Rattle.rules.specs.State.{Event, Held, in_record, Chain, State, side, with_side, with_queue, with_queues, queue, with_free, free_place}
use Rattle.rules.specs.Queueing.{chain_of, insert, put_event, push_event}
use Rattle.rules.specs.ChoiceHeads.{Head}
use Rattle.rules.specs.ChoiceRound.{lift_event, take_event}
use Rattle.queue_event.specs.Words.{next_of, tag_of}
use Rattle.queue_event.specs.Tag.{mark_of}
use Rattle.queue_event.specs.Chain.{rec_at, Node, nodes, Is, Chain as LinkedFrom}
use Rattle.queue_event.specs.Frame.{Popped}
use Rattle.queue_event.specs.Order.{Inserted}
use Rattle.queue_event.specs.Links.{fresh}
use Rattle.queue_event.proofs.Laws.{nodes_next, pred_is}
use Rattle.layout.specs.Records.{chain_count, head_of, count_of, chain_at, machines_for, Fit}
use Rattle.layout.specs.Accepted.{Good}
use Rattle.layout.specs.Layout.{chains}
use Rattle.layout.specs.Changes.{put_two, with_chain}

-- ---- a chain of a good state, and its head

module _ (h rs : List ℕ) (g : Good h rs) (k : ℕ) (small : k < chain_count) where
  pub chain_is : Is k rs (count_of h k) (head_of h k) (chain_at h rs k)
  chain_is = record { chain = (g.chains k small).links; held = refl }

  module _ (some : 0 < count_of h k) where
    pub chain_first : chain_at h rs k ≡ record { at = head_of h k; rec = rec_at rs (head_of h k) } ∷ nodes rs (count_of h k - 1) (next_of rs (head_of h k))
    chain_first = nodes_next rs (count_of h k) (head_of h k) some

    pub first_is : Is k rs (suc (count_of h k - 1)) (head_of h k) (record { at = head_of h k; rec = rec_at rs (head_of h k) } ∷ nodes rs (count_of h k - 1) (next_of rs (head_of h k)))
    first_is =
        record {
          chain = subst (λ n. LinkedFrom rs k n (head_of h k)) (pred_is (count_of h k) some) (g.chains k small).links;
          held = sym (ap (λ n. nodes rs n (head_of h k)) (pred_is (count_of h k) some)) ∙ chain_first;
        }

-- ---- push

pub push_is :
    (s : State) (z : Side) (c : Chain) (e : Event) → e.side ≡ z → chain_of e ≡ c
    → push_event s e ≡ with_chain s z c (insert (in_record (free_place s.free) e) (queue (side s z).queues c)) (tail s.free)
unfolding push_event put_event
push_is s z c e p q = go e.side (chain_of e) ∙ (λ d. with_chain s (p d) (q d) (insert x (queue (side s (p d)).queues (q d))) (tail s.free))
  where
    t : State
    t = with_free s (tail s.free)

    x : Held Event
    x = in_record (free_place s.free) e

    go : (y : Side) (k : Chain) → with_side t y (with_queues (side t y) (with_queue (side t y).queues k (insert x (queue (side t y).queues k)))) ≡ with_chain s y k (insert x (queue (side s y).queues k)) (tail s.free)
    go client k = refl
    go server k = refl

module _ (h rs rs' : List ℕ) (m l t r : ℕ) (wide : length h ≡ 256) (g : Good h rs) (small : mark_of t < chain_count) (nz : mark_of t ≡ 0 → ⊥) (some : 0 < count_of h 0)
    (put : Inserted rs rs' (head_of h (mark_of t)) (count_of h (mark_of t)) (head_of h 0) m l t r) (len : length rs' ≡ length rs) where
  -- the header after it, and what its chain then holds
  abbrev pub pushed : List ℕ
  pushed = put_two h 0 (next_of rs (head_of h 0)) (count_of h 0 - 1) (mark_of t) r (suc (count_of h (mark_of t)))

  abbrev pub new : Node
  new = fresh (head_of h 0) m l t

-- ---- pop

fit_mark : (rs : List ℕ) (k c a : ℕ) (l : List Node) → Fit k c (record { at = a; rec = rec_at rs a } ∷ l) → mark_of (tag_of rs a) ≡ k
unfolding Fit rec_at
fit_mark rs k c a l f = f.0.shape.chain

take_is : (s : State) (z : Side) (c : Chain) (h : Head) → h.event.side ≡ z → h.chain ≡ c → take_event s h ≡ with_chain s z c (tail (queue (side s z).queues c)) (h.place ∷ s.free)
unfolding take_event lift_event
take_is s z c h p q = λ d. with_free (with_side s (p d) (with_queues (side s (p d)) (with_queue (side s (p d)).queues (q d) (tail (queue (side s (p d)).queues (q d)))))) (h.place ∷ s.free)

module _ (h rs rs' : List ℕ) (k : ℕ) (wide : length h ≡ 256) (g : Good h rs) (small : k < chain_count) (nz : k ≡ 0 → ⊥) (some : 0 < count_of h k)
    (pop : Popped rs rs' (head_of h k) (head_of h 0) (next_of rs (head_of h k))) (len : length rs' ≡ length rs) where
  -- the header after it
  abbrev pub popped : List ℕ
  popped = put_two h 0 (head_of h k) (suc (count_of h 0)) k (next_of rs (head_of h k)) (count_of h k - 1)

  mark : mark_of (tag_of rs (head_of h k)) ≡ k
  mark = fit_mark rs k (machines_for h k) (head_of h k) _ (subst (Fit k (machines_for h k)) (chain_first h rs g k small some) (g.chains k small).fit)
