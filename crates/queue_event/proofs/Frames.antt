-- Laws of what a change leaves alone, and of taking the head of a chain. Assumes nothing.
use Prim.Native.Nat.{ℕ, zero, suc, ◌≤◌, ◌<◌}
use native.Mathlib.Omega.{arith}
use mathlib.Core.Path.{◌≡◌, refl, ap, ◌∙◌}
use mathlib.Core.List.{List, ◌∷◌}
use lib.ListN.{length}
use lib.Dec.{lit<}
use Rattle.queue_event.specs.Words.{word, put, next_of, moment_of, length_of, tag_of, In}
use Rattle.queue_event.specs.Chain.{mark_of, Chain, rec_at, Node, nodes, Is}
use Rattle.queue_event.specs.Frame.{Same, Kept, Only, Still, Agree, popped, Popped}
unfoldable pub use Rattle.queue_event.specs.Frame.{Off}
use Rattle.queue_event.proofs.Laws.{length_put, in_put, word_put_same, word_put_field, word_put_other}

-- ---- a chain whose every record has the same words in both lists

pub in_len : (rs rs' : List ℕ) (q : ℕ) → length rs' ≡ length rs → In rs q → In rs' q
in_len rs rs' q e i = record { one = i.one; fits = rw e i.fits }

pub same_rec : (rs rs' : List ℕ) (q : ℕ) → Same rs rs' q → rec_at rs' q ≡ rec_at rs q
unfolding rec_at
same_rec rs rs' q s = rw (s 1 (lit< tt), s 2 (lit< tt), s 3 (lit< tt))

pub agree_still : (rs rs' : List ℕ) (k n h : ℕ) → length rs' ≡ length rs → Agree rs rs' n h → Chain rs k n h → Still k n h rs rs'
unfolding Agree Chain nodes
agree_still rs rs' k zero h e a c = record { chain = c; held = refl }
agree_still rs rs' k (suc n) h e a c =
    let ih : Still k n (next_of rs h) rs rs' = agree_still rs rs' k n (next_of rs h) e a.1 c.2 in
    let en : next_of rs' h ≡ next_of rs h = a.0 0 (lit< tt) in
    record {
      chain = (in_len rs rs' h e c.0, rw (a.0 3 (lit< tt)) c.1, rw en ih.chain);
      held = rw (same_rec rs rs' h a.0, en, ih.held);
    }

kept_agree : (rs rs' : List ℕ) (k n h : ℕ) → Kept k rs rs' → Chain rs k n h → Agree rs rs' n h
unfolding Agree Chain
kept_agree rs rs' k zero h f c = tt
kept_agree rs rs' k (suc n) h f c = (f.same h c.0 c.1, kept_agree rs rs' k n (next_of rs h) f c.2)

-- the frame: what keeps the records of mark k keeps each chain of mark k
pub kept_still : (rs rs' : List ℕ) (k n h : ℕ) → Kept k rs rs' → Chain rs k n h → Still k n h rs rs'
kept_still rs rs' k n h f c = agree_still rs rs' k n h f.len (kept_agree rs rs' k n h f c) c

-- ---- one record changed

pub only_put : (rs : List ℕ) (r i v : ℕ) → 1 ≤ r → i < 4 → Only r rs (put rs r i v)
only_put rs r i v p l = record {
  len = length_put rs r i v;
  same = λ q iq d j lj. word_put_other rs r i v q j p iq.one l lj d;
}

pub only_trans : {r : ℕ} {a b c : List ℕ} → Only r a b → Only r b c → Only r a c
only_trans {r} {a} {b} {c} f g = record {
  len = g.len ∙ f.len;
  same = λ q iq d j lj. g.same q (in_len a b q f.len iq) d j lj ∙ f.same q iq d j lj;
}

pub only_kept : (rs rs' : List ℕ) (r k : ℕ) → (mark_of (tag_of rs r) ≡ k → ⊥) → Only r rs rs' → Kept k rs rs'
only_kept rs rs' r k d f = record {
  len = f.len;
  same = λ q iq m. f.same q iq (λ e. d (rw e at m));
}

-- ---- a chain ends, so no record stands twice on it

pub chain_unique : (rs : List ℕ) (k n m h : ℕ) → Chain rs k n h → Chain rs k m h → n ≡ m
unfolding Chain
chain_unique rs k zero zero h c d = refl
chain_unique rs k zero (suc m) h c d = absurd (let p = d.0.one in omega arith)
chain_unique rs k (suc n) zero h c d = absurd (let p = c.0.one in omega arith)
chain_unique rs k (suc n) (suc m) h c d = ap suc (chain_unique rs k n m (next_of rs h) c.2 d.2)

pub chain_off : (rs : List ℕ) (k n m h q : ℕ) → Chain rs k n h → Chain rs k m q → n < m → Off (nodes rs n h) q
unfolding Chain Off nodes
chain_off rs k zero m h q c d l = tt
chain_off rs k (suc n) m h q c d l =
    (λ e. let u : suc n ≡ m = chain_unique rs k (suc n) m q (rw e at c) d in omega arith, chain_off rs k n m (next_of rs h) q c.2 d (omega arith))

only_agree : (rs rs' : List ℕ) (r k n h : ℕ) → Only r rs rs' → Off (nodes rs n h) r → Chain rs k n h → Agree rs rs' n h
unfolding Agree Off Chain nodes
only_agree rs rs' r k zero h f o c = tt
only_agree rs rs' r k (suc n) h f o c = (f.same h c.0 o.0, only_agree rs rs' r k n (next_of rs h) f o.1 c.2)

pub off_still : (rs rs' : List ℕ) (r k n h : ℕ) → Only r rs rs' → Off (nodes rs n h) r → Chain rs k n h → Still k n h rs rs'
off_still rs rs' r k n h f o c = agree_still rs rs' k n h f.len (only_agree rs rs' r k n h f o c) c

-- ---- what a chain is, from what it was

pub still_is : (k n h : ℕ) (rs rs' : List ℕ) (l : List Node) → Is k rs n h l → Still k n h rs rs' → Is k rs' n h l
still_is k n h rs rs' l z s = record { chain = s.chain; held = s.held ∙ z.held }

pub tail_is : (k n : ℕ) (rs rs' : List ℕ) (x : Node) (l : List Node) {h : ℕ} → Is k rs (suc n) h (x ∷ l) → Still k n (next_of rs h) rs rs' → Is k rs' n (next_of rs h) l
unfolding nodes
tail_is k n rs rs' x l {h} z s = let e = z.held in record { chain = s.chain; held = s.held ∙ cc }

-- ---- pop

popped_only : (rs : List ℕ) (h free : ℕ) → 1 ≤ h → Only h rs (popped rs h free)
unfolding popped
popped_only rs h free p = only_trans (only_put rs h 0 free p (lit< tt)) (only_put _ h 3 0 p (lit< tt))

popped_next : (rs : List ℕ) (h free : ℕ) → In rs h → next_of (popped rs h free) h ≡ free
unfolding popped
popped_next rs h free i = word_put_field _ h 3 0 0 (λ e. omega arith) ∙ word_put_same rs h 0 free i (lit< tt)

popped_tag : (rs : List ℕ) (h free : ℕ) → In rs h → tag_of (popped rs h free) h ≡ 0
unfolding popped
popped_tag rs h free i = word_put_same _ h 3 0 (in_put h 0 free i) (lit< tt)

popped_kept : (rs : List ℕ) (h free j : ℕ) → (j ≡ 3 → ⊥) → (j ≡ 0 → ⊥) → word (popped rs h free) h j ≡ word rs h j
unfolding popped
popped_kept rs h free j a b = word_put_field _ h 3 0 j a ∙ word_put_field rs h 0 free j b

popped_rec : (rs : List ℕ) (h free : ℕ) → In rs h → rec_at (popped rs h free) h ≡ record { moment = moment_of rs h; size = length_of rs h; tag = 0 }
unfolding rec_at
popped_rec rs h free i = rw (popped_tag rs h free i, popped_kept rs h free 1 (λ e. omega arith) (λ e. omega arith), popped_kept rs h free 2 (λ e. omega arith) (λ e. omega arith))

pub pop_law : (rs : List ℕ) (h free : ℕ) → In rs h → (mark_of (tag_of rs h) ≡ 0 → ⊥) → Popped rs (popped rs h free) h free (next_of rs h)
unfolding Chain nodes
pop_law rs h free i d = record {
  len = only.len;
  link = popped_next rs h free i;
  taken = λ k n x l z. tail_is k n rs _ x l z (off_still rs (popped rs h free) h k n (next_of rs h) only (chain_off rs k n (suc n) (next_of rs h) h z.chain.2 z.chain (omega arith)) z.chain.2);
  given = λ n l z. let s = kept_still rs (popped rs h free) 0 n free (only_kept _ _ h 0 d only) z.chain in record {
    chain = (in_len rs _ h only.len i, rw (popped_tag rs h free i) refl, rw (popped_next rs h free i) s.chain);
    held = rw (popped_rec rs h free i, popped_next rs h free i, s.held, z.held);
  };
  others = λ k n a l m z. still_is k n a rs _ l z (kept_still rs (popped rs h free) k n a (only_kept _ _ h k m only) z.chain);
}
  where
    only : Only h rs (popped rs h free)
    only = popped_only rs h free i.one

-- the same, as the code has it: each state is an equation of the last
pub pop_done : (rs a b : List ℕ) (h free next : ℕ) → In rs h → (mark_of (tag_of rs h) ≡ 0 → ⊥) → next ≡ next_of rs h → a ≡ put rs h 0 free → b ≡ put a h 3 0 → Popped rs b h free next
unfolding popped
pop_done rs a b h free next i d en ea eb = rw (eb, ea, en) (pop_law rs h free i d)
