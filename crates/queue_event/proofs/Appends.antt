-- Laws of the end of a chain and of appending. Assumes nothing.
use Prim.Native.Nat.{ℕ, zero, suc}
use native.Mathlib.Omega.{arith}
use mathlib.Core.Path.{◌≡◌, refl, sym, ap, ◌∙◌}
use mathlib.Core.List.{List, [], ◌∷◌, ◌++◌}
use Rattle.std.specs.Prelude.{Option, Some, IfSome}
use Rattle.std.specs.Iterator.{Drains}
use Rattle.std.specs.List.{last_or}
use Rattle.queue_event.specs.Words.{put, filled, next_of, tag_of, In}
use Rattle.queue_event.specs.Chain.{mark_of, Chain, Node, nodes}
use Rattle.queue_event.specs.Links.{fresh, link_by, pred_by, Joined}
use Rattle.queue_event.specs.Tail.{last_of, every, Appended}
use Rattle.queue_event.specs.Walks.{left, Walked, number_or, Finds}
use Rattle.queue_event.specs.declared.chain.Linked.{Linked}
use Rattle.queue_event.specs.declared.read.Record.{Record}
use Rattle.queue_event.proofs.Links.{zero_off, pred_not, join_front, join_after}

-- ---- the walk to the last record

-- what turns from s give last is the last record of those left, and o where none is
pub walk_last :
    (rs : List ℕ) (xs : List Record) (s : Linked) (o : Option Record) → s.records.now ≡ rs → IfSome o (λ x. x.records.now ≡ rs) → Drains Walked s xs
    → Finds rs (last_of (left s) (number_or 0 o)) (last_or o xs)
unfolding last_of
walk_last rs [] s o er f (u, (t, e, w)) = record { number = sym (ap (λ l. last_of l (number_or 0 o)) (ap left e ∙ w.0)); of = f }
walk_last rs (x ∷ xs) s o er f (u, (t, (j, a, y), w)) =
    let n = walk_last rs xs j (Some x) (a.2 ∙ er) (a.1 ∙ er) (u, (t, y, w)) in
    record { number = n.number ∙ sym (ap (λ l. last_of l (number_or 0 o)) a.0); of = n.of }

-- ---- appending is linking after all records

last_is : (l : List Node) (p : ℕ) → last_of l p ≡ pred_by every l p
unfolding last_of pred_by
last_is [] p = refl
last_is (y ∷ l) p = last_is l y.at

append_is : (x : Node) (l : List Node) → link_by every x l ≡ l ++ (x ∷ [])
unfolding link_by
append_is x [] = refl
append_is x (y ∷ l) = ap (λ z. y ∷ z) (append_is x l)

-- what follows the last record is the end; p is what is before the chain
last_next : (rs : List ℕ) (k n h p : ℕ) → Chain rs k n h → next_of rs p ≡ h → next_of rs (last_of (nodes rs n h) p) ≡ 0
unfolding last_of nodes Chain
last_next rs k zero h p c e = e ∙ c
last_next rs k (suc n) h p c e = last_next rs k n (next_of rs h) h c.2 refl

-- the same for a chain from its head
last_ends : (rs : List ℕ) (k n h p : ℕ) → Chain rs k n h → p ≡ last_of (nodes rs n h) 0 → (p ≡ 0 → ⊥) → next_of rs p ≡ 0
unfolding last_of nodes Chain
last_ends rs k zero h p c ep d = absurd (d ep)
last_ends rs k (suc n) h p c ep d = rw ep (last_next rs k n (next_of rs h) h c.2 refl)

-- an empty chain has head 0
head_zero : (rs : List ℕ) (k n h p : ℕ) → Chain rs k n h → p ≡ last_of (nodes rs n h) 0 → p ≡ 0 → h ≡ 0
unfolding last_of nodes Chain
head_zero rs k zero h p c ep e = c
head_zero rs k (suc n) h p c ep e =
    absurd (pred_not every (nodes rs n (next_of rs h)) h 0 (zero_off rs k n (next_of rs h) c.2) (λ z. let l = c.0.one in omega arith) (sym (last_is (nodes rs n (next_of rs h)) h) ∙ sym ep ∙ e))

appended : (rs rs' : List ℕ) (head count place m t r : ℕ) → Joined (mark_of t) (link_by every (fresh place m 0 t)) rs rs' head count place r → Appended rs rs' head count place m t r
appended rs rs' head count place m t r j = record {
  len = j.len;
  got = λ x z. let g = j.got x z in record { chain = g.chain; held = g.held ∙ append_is (fresh place m 0 t) x };
  free = j.free;
  others = j.others;
}

module _ (rs : List ℕ) (count head place m t pred : ℕ) (c : Chain rs (mark_of t) count head) (nz : mark_of t ≡ 0 → ⊥) (i : In rs place) (mp : mark_of (tag_of rs place) ≡ 0)
    (ep : pred ≡ last_of (nodes rs count head) 0) where
  by_test : pred ≡ pred_by every (nodes rs count head) 0
  by_test = ep ∙ last_is (nodes rs count head) 0

  pub append_first : (rs' : List ℕ) → pred ≡ 0 → rs' ≡ filled rs place 0 m 0 t → Appended rs rs' head count place m t place
  append_first rs' e es =
      appended rs rs' head count place m t place
      (join_front every rs count head place m 0 t pred c nz i mp by_test rs' e (es ∙ ap (λ z. filled rs place z m 0 t) (sym (head_zero rs (mark_of t) count head pred c ep e))))

  pub append_after : (rs₁ rs₂ : List ℕ) → (pred ≡ 0 → ⊥) → rs₁ ≡ filled rs place 0 m 0 t → rs₂ ≡ put rs₁ pred 0 place → Appended rs rs₂ head count place m t head
  append_after rs₁ rs₂ d e₁ e₂ =
      appended rs rs₂ head count place m t head
      (join_after every rs count head place m 0 t pred c nz i mp by_test 0 rs₁ rs₂ d (sym (last_ends rs (mark_of t) count head pred c ep d)) e₁ e₂)
