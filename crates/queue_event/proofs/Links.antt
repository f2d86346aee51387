-- Laws of a new record linked into a chain, for inserting and appending alike. Assumes nothing.
use Prim.Native.Nat.{ℕ, zero, suc, ◌<◌}
use native.Mathlib.Nat.{not-suc-le-zero}
use native.Mathlib.Omega.{arith}
use mathlib.Core.Path.{◌≡◌, refl, sym, ap, ◌∙◌}
use mathlib.Core.Bool.{Bool, true, false}
use mathlib.Core.List.{List, [], ◌∷◌}
use lib.Dec.{lit<}
use Rattle.queue_event.specs.Words.{put, filled, next_of, moment_of, length_of, tag_of, In}
use Rattle.queue_event.specs.Chain.{pick, mark_of, Chain, rec_at, Node, nodes, Is}
use Rattle.queue_event.specs.Frame.{Same, Only, Still, Off, node}
use Rattle.queue_event.specs.Links.{fresh, link_by, pred_by, On, Joined}
use Rattle.queue_event.proofs.Laws.{in_put, word_put_same, word_put_field}
use Rattle.queue_event.proofs.Frames.{in_len, same_rec, kept_still, only_put, only_trans, only_kept, chain_off, off_still, still_is, tail_is}

-- ---- a record written whole

module _ (rs : List ℕ) (q next m l t : ℕ) (i : In rs q) where
  pub filled_only : Only q rs (filled rs q next m l t)
  unfolding filled
  filled_only =
      only_trans (only_put rs q 0 next i.one (lit< tt))
      (only_trans (only_put _ q 1 m i.one (lit< tt)) (only_trans (only_put _ q 2 l i.one (lit< tt)) (only_put _ q 3 t i.one (lit< tt))))

  pub filled_next : next_of (filled rs q next m l t) q ≡ next
  unfolding filled
  filled_next =
      word_put_field _ q 3 t 0 (λ e. omega arith) ∙ word_put_field _ q 2 l 0 (λ e. omega arith) ∙ word_put_field _ q 1 m 0 (λ e. omega arith)
      ∙ word_put_same rs q 0 next i (lit< tt)

  filled_moment : moment_of (filled rs q next m l t) q ≡ m
  unfolding filled
  filled_moment = word_put_field _ q 3 t 1 (λ e. omega arith) ∙ word_put_field _ q 2 l 1 (λ e. omega arith) ∙ word_put_same _ q 1 m (in_put q 0 next i) (lit< tt)

  filled_size : length_of (filled rs q next m l t) q ≡ l
  unfolding filled
  filled_size = word_put_field _ q 3 t 2 (λ e. omega arith) ∙ word_put_same _ q 2 l (in_put q 1 m (in_put q 0 next i)) (lit< tt)

  pub filled_tag : tag_of (filled rs q next m l t) q ≡ t
  unfolding filled
  filled_tag = word_put_same _ q 3 t (in_put q 2 l (in_put q 1 m (in_put q 0 next i))) (lit< tt)

  pub filled_node : node (filled rs q next m l t) q ≡ fresh q m l t
  unfolding rec_at
  filled_node = rw (filled_moment, filled_size, filled_tag)

-- a record is one of the slice too once another is written
pub filled_in : (rs rs₁ rs' : List ℕ) (q next m l t r : ℕ) → In rs q → rs₁ ≡ filled rs q next m l t → rs' ≡ rs → In rs' r → In rs₁ r
filled_in rs rs₁ rs' q next m l t r i e er h = rw e (in_len rs _ r (filled_only rs q next m l t i).len (rw er at h))

-- ---- off the chain

-- a record of another mark is not on the chain
mark_off : (rs : List ℕ) (k n h q : ℕ) → (mark_of (tag_of rs q) ≡ k → ⊥) → Chain rs k n h → Off (nodes rs n h) q
unfolding Chain nodes Off
mark_off rs k zero h q d c = tt
mark_off rs k (suc n) h q d c = (λ e. d (rw e at c.1), mark_off rs k n (next_of rs h) q d c.2)

-- no chain has a record 0
pub zero_off : (rs : List ℕ) (k n h : ℕ) → Chain rs k n h → Off (nodes rs n h) 0
unfolding Chain nodes Off
zero_off rs k zero h c = tt
zero_off rs k (suc n) h c = (λ e. let p = c.0.one in omega arith, zero_off rs k n (next_of rs h) c.2)

put_next_rec : (rs : List ℕ) (h v : ℕ) → rec_at (put rs h 0 v) h ≡ rec_at rs h
unfolding rec_at
put_next_rec rs h v = rw (word_put_field rs h 0 v 1 (λ z. omega arith), word_put_field rs h 0 v 2 (λ z. omega arith), word_put_field rs h 0 v 3 (λ z. omega arith))

-- ---- the record after which the new one goes

pick_case : {A : Type 0} (P : A → Type 0) (b : Bool) (x y : A) → P x → P y → P (pick b x y)
pick_case P true x y p q = p
pick_case P false x y p q = q

pub pred_not : (keep : Node → Bool) (l : List Node) (p q : ℕ) → Off l q → (p ≡ q → ⊥) → pred_by keep l p ≡ q → ⊥
unfolding pred_by Off
pred_not keep [] p q o d = d
pred_not keep (y ∷ l) p q o d = pick_case (λ (z : ℕ). z ≡ q → ⊥) (keep y) _ _ (pred_not keep l y.at q o.1 o.0) d

-- where it is not 0, it is a record of the chain
module _ (keep : Node → Bool) (rs : List ℕ) (k : ℕ) where
  pred_at : (n h p : ℕ) → Chain rs k n h → (0 < p → On rs k p) → 0 < pred_by keep (nodes rs n h) p → On rs k (pred_by keep (nodes rs n h) p)
  unfolding Chain nodes pred_by
  pred_at zero h p c f = f
  pred_at (suc n) h p c f = pick_case (λ (z : ℕ). 0 < z → On rs k z) (keep (node rs h)) _ _ (pred_at n (next_of rs h) h c.2 (λ _. (c.0, c.1))) f

  pub pred_on : (n h p : ℕ) → Chain rs k n h → p ≡ pred_by keep (nodes rs n h) 0 → (p ≡ 0 → ⊥) → On rs k p
  pred_on n h p c ep d = rw ep (pred_at n h 0 c (λ l. absurd (not-suc-le-zero l)) (rw ep at pos))
    where
      pos : 0 < p
      pos = omega arith

-- ---- the link, in a state where the record q is written: its mark is k, and it is not on the chain

module _ (keep : Node → Bool) (rs : List ℕ) (k q : ℕ) (i : In rs q) (mk : mark_of (tag_of rs q) ≡ k) where
  -- q in front
  front : (n h : ℕ) → next_of rs q ≡ h → Chain rs k n h → Is k rs (suc n) q (node rs q ∷ nodes rs n h)
  unfolding Chain nodes
  front n h e c = record { chain = (i, mk, rw e c); held = rw e }

  -- q after h
  after : (n h : ℕ) → next_of rs q ≡ next_of rs h → Off (nodes rs (suc n) h) q → Chain rs k (suc n) h
      → Is k (put rs h 0 q) (suc (suc n)) h (node rs h ∷ node rs q ∷ nodes rs n (next_of rs h))
  unfolding Chain nodes Off
  after n h e o c =
      let only : Only h rs (put rs h 0 q) = only_put rs h 0 q c.0.one (lit< tt) in
      let sq : Same rs (put rs h 0 q) q = only.same q i (λ z. o.0 (sym z)) in
      let to_q : next_of (put rs h 0 q) h ≡ q = word_put_same rs h 0 q c.0 (lit< tt) in
      let on : next_of (put rs h 0 q) q ≡ next_of rs h = sq 0 (lit< tt) ∙ e in
      let st : Still k n (next_of rs h) rs (put rs h 0 q) =
      off_still rs (put rs h 0 q) h k n (next_of rs h) only (chain_off rs k n (suc n) (next_of rs h) h c.2 c (omega arith)) c.2 in
      record {
        chain = (
          in_put h 0 q c.0,
          rw (word_put_field rs h 0 q 3 (λ z. omega arith)) c.1,
          rw to_q (in_put h 0 q i, rw (sq 3 (lit< tt)) mk, rw on st.chain),
        );
        held = rw (to_q, on, st.held, same_rec rs _ q sq, put_next_rec rs h q);
      }

  -- h stays, and the rest of the chain is done
  past : (n h p : ℕ) (l : List Node) → In rs p → (p ≡ h → ⊥) → Chain rs k (suc n) h → Is k (put rs p 0 q) (suc n) (next_of rs h) l → Is k (put rs p 0 q) (suc (suc n)) h (node rs h ∷ l)
  unfolding Chain nodes
  past n h p l ip d c z =
      let sh : Same rs (put rs p 0 q) h = (only_put rs p 0 q ip.one (lit< tt)).same h c.0 (λ e. d (sym e)) in
      record {
        chain = (in_put p 0 q c.0, rw (sh 3 (lit< tt)) c.1, rw (sh 0 (lit< tt)) z.chain);
        held = rw (same_rec rs _ h sh, sh 0 (lit< tt), z.held);
      }

  -- q after the last record that is kept in front, on the chain from h, which is
  through : (n h p : ℕ) → p ≡ pred_by keep (nodes rs n (next_of rs h)) h → In rs p → next_of rs q ≡ next_of rs p → Off (nodes rs (suc n) h) q → Chain rs k (suc n) h
      → Is k (put rs p 0 q) (suc (suc n)) h (node rs h ∷ link_by keep (node rs q) (nodes rs n (next_of rs h)))
  unfolding Chain nodes Off pred_by link_by
  through zero h p ep ip e o c = rw ep (after zero h (rw ep at e) o c)
  through (suc n) h p ep ip e o c =
      go (keep (node rs (next_of rs h))) ep (λ z. through n (next_of rs h) p z ip e o.1 c.2)
    where
      l : List Node
      l = nodes rs n (next_of rs (next_of rs h))

      off : Off (nodes rs (suc n) (next_of rs h)) h
      off = chain_off rs k (suc n) (suc (suc n)) (next_of rs h) h c.2 c (omega arith)

      go : (b : Bool) → p ≡ pick b (pred_by keep l (next_of rs h)) h
          → (p ≡ pred_by keep l (next_of rs h) → Is k (put rs p 0 q) (suc (suc n)) (next_of rs h) (node rs (next_of rs h) ∷ link_by keep (node rs q) l))
          → Is k (put rs p 0 q) (suc (suc (suc n))) h (node rs h ∷ pick b (node rs (next_of rs h) ∷ link_by keep (node rs q) l) (node rs q ∷ node rs (next_of rs h) ∷ l))
      go true ep' ih = past (suc n) h p _ ip (λ z. pred_not keep l (next_of rs h) h off.1 off.0 (sym ep' ∙ z)) c (ih ep')
      go false ep' ih = rw ep' (after (suc n) h (rw ep' at e) o c)

  -- the same for the whole chain, where some record is kept in front
  link_law : (n h p : ℕ) → p ≡ pred_by keep (nodes rs n h) 0 → (p ≡ 0 → ⊥) → In rs p → next_of rs q ≡ next_of rs p → Off (nodes rs n h) q → Chain rs k n h
      → Is k (put rs p 0 q) (suc n) h (link_by keep (node rs q) (nodes rs n h))
  unfolding nodes pred_by link_by
  link_law zero h p ep d ip e o c = absurd (d ep)
  link_law (suc n) h p ep d ip e o c = go (keep (node rs h)) ep
    where
      l : List Node
      l = nodes rs n (next_of rs h)

      go : (b : Bool) → p ≡ pick b (pred_by keep l h) 0 → Is k (put rs p 0 q) (suc (suc n)) h (pick b (node rs h ∷ link_by keep (node rs q) l) (node rs q ∷ node rs h ∷ l))
      go true ep' = through n h p ep' ip e o c
      go false ep' = absurd (d ep')

-- where none is kept in front, the new record goes there
pred_front : (keep : Node → Bool) (rs : List ℕ) (k n h : ℕ) (x : Node) → Chain rs k n h → pred_by keep (nodes rs n h) 0 ≡ 0 → link_by keep x (nodes rs n h) ≡ x ∷ nodes rs n h
unfolding Chain nodes pred_by link_by
pred_front keep rs k zero h x c e = refl
pred_front keep rs k (suc n) h x c e = go (keep (node rs h)) e
  where
    l : List Node
    l = nodes rs n (next_of rs h)

    go : (b : Bool) → pick b (pred_by keep l h) 0 ≡ 0 → pick b (node rs h ∷ link_by keep x l) (x ∷ node rs h ∷ l) ≡ x ∷ node rs h ∷ l
    go true z = absurd (pred_not keep l h 0 (zero_off rs k n (next_of rs h) c.2) (λ e₀. let p = c.0.one in omega arith) z)
    go false z = refl

-- ---- a free record, written and linked

still_trans : (k n h : ℕ) (a b c : List ℕ) → Still k n h a b → Still k n h b c → Still k n h a c
still_trans k n h a b c s u = record { chain = u.chain; held = u.held ∙ s.held }

module _ (keep : Node → Bool) (rs : List ℕ) (count head place m l t pred : ℕ) (c : Chain rs (mark_of t) count head) (nz : mark_of t ≡ 0 → ⊥) (i : In rs place) (mp : mark_of (tag_of rs place) ≡ 0)
    (ep : pred ≡ pred_by keep (nodes rs count head) 0) where
  -- the chain, once the record is written
  written : (next : ℕ) → Still (mark_of t) count head rs (filled rs place next m l t)
  written next = kept_still rs _ (mark_of t) count head (only_kept rs _ place (mark_of t) (λ e. nz (sym e ∙ mp)) (filled_only rs place next m l t i)) c

  written_free : (next n : ℕ) → Chain rs 0 (suc n) place → Still 0 n (next_of rs place) rs (filled rs place next m l t)
  unfolding Chain
  written_free next n f = off_still rs _ place 0 n (next_of rs place) (filled_only rs place next m l t i) (chain_off rs 0 n (suc n) (next_of rs place) place f.2 f (omega arith)) f.2

  written_others : (next k n a : ℕ) → (k ≡ 0 → ⊥) → Chain rs k n a → Still k n a rs (filled rs place next m l t)
  written_others next k n a d f = kept_still rs _ k n a (only_kept rs _ place k (λ e. d (sym e ∙ mp)) (filled_only rs place next m l t i)) f

  in_written : (next : ℕ) → In (filled rs place next m l t) place
  in_written next = in_len rs _ place (filled_only rs place next m l t i).len i

  pub join_front : (rs' : List ℕ) → pred ≡ 0 → rs' ≡ filled rs place head m l t → Joined (mark_of t) (link_by keep (fresh place m l t)) rs rs' head count place place
  join_front rs' e es = rw es (record {
    len = (filled_only rs place head m l t i).len;
    got = λ x z. record { chain = f.chain; held = f.held ∙ rw (filled_node rs place head m l t i, (written head).held) (sym (pred_front keep rs (mark_of t) count head (fresh place m l t) c (sym ep ∙ e))) ∙ ap (link_by keep (fresh place m l t)) z.held };
    free = λ n y x z. tail_is 0 n rs _ y x z (written_free head n z.chain);
    others = λ k n a x d d₀ z. still_is k n a rs _ x z (written_others head k n a d₀ z.chain);
  })
    where
      f : Is (mark_of t) (filled rs place head m l t) (suc count) place (node (filled rs place head m l t) place ∷ nodes (filled rs place head m l t) count head)
      f = front keep _ (mark_of t) place (in_written head) (ap mark_of (filled_tag rs place head m l t i)) count head (filled_next rs place head m l t i) (written head).chain

  pub join_after : (next : ℕ) (rs₁ rs₂ : List ℕ) → (pred ≡ 0 → ⊥) → next ≡ next_of rs pred → rs₁ ≡ filled rs place next m l t → rs₂ ≡ put rs₁ pred 0 place → Joined (mark_of t) (link_by keep (fresh place m l t)) rs rs₂ head count place head
  join_after next rs₁ rs₂ d en e₁ e₂ = rw (e₂, e₁) (record {
    len = (only_put _ pred 0 place on.0.one (lit< tt)).len ∙ (filled_only rs place next m l t i).len;
    got = λ x z. record { chain = g.chain; held = g.held ∙ rw (filled_node rs place next m l t i, (written next).held, z.held) };
    free = λ n y x z. let w = written_free next n z.chain in tail_is 0 n rs _ y x z (still_trans 0 n _ _ _ _ w (linked 0 n _ (λ e. nz e) w.chain));
    others = λ k n a x dk d₀ z. let w = written_others next k n a d₀ z.chain in still_is k n a rs _ x z (still_trans k n a _ _ _ w (linked k n a (λ e. dk (sym e)) w.chain));
  })
    where
      on : On rs (mark_of t) pred
      on = pred_on keep rs (mark_of t) count head pred c ep d

      same : Same rs (filled rs place next m l t) pred
      same = (filled_only rs place next m l t i).same pred on.0 (λ e. nz (sym on.1 ∙ ap (λ (z : ℕ). mark_of (tag_of rs z)) e ∙ mp))

      in_pred : In (filled rs place next m l t) pred
      in_pred = in_len rs _ pred (filled_only rs place next m l t i).len on.0

      -- the link touches a record of the chain alone
      linked : (k n a : ℕ) → (mark_of t ≡ k → ⊥) → Chain (filled rs place next m l t) k n a → Still k n a (filled rs place next m l t) (put (filled rs place next m l t) pred 0 place)
      linked k n a dk z =
          kept_still _ _ k n a (only_kept _ _ pred k (λ e. dk (sym on.1 ∙ sym (ap mark_of (same 3 (lit< tt))) ∙ e)) (only_put _ pred 0 place on.0.one (lit< tt))) z

      g : Is (mark_of t) (put (filled rs place next m l t) pred 0 place) (suc count) head (link_by keep (node (filled rs place next m l t) place) (nodes (filled rs place next m l t) count head))
      g = link_law keep _ (mark_of t) place (in_written next) (ap mark_of (filled_tag rs place next m l t i)) count head pred
          (rw (written next).held ep) d in_pred
          (filled_next rs place next m l t i ∙ en ∙ sym (same 0 (lit< tt)))
          (rw (written next).held (mark_off rs (mark_of t) count head place (λ e. nz (sym e ∙ mp)) c))
          (written next).chain
