-- What is packed is accepted, and as long as it was. Assumes nothing.
use Prim.Native.Nat.{ℕ, zero, suc, ◌+◌, ◌-◌, ◌/◌, ◌≤◌, ◌<◌}
use mathlib.Core.Path.{◌≡◌, sym, subst, ◌∙◌}
use mathlib.Core.List.{List, [], ◌∷◌}
use mathlib.Core.Logic.{inl, inr}
use native.Mathlib.Omega.{arith}
use lib.ListN.{length, get_or, take, drop, length-drop}
use lib.Seq.{get_or-take}
use Rattle.queue_event.specs.Chain.{Rec, Node, recs, Is}
use Rattle.queue_event.specs.Tag.{kind_field}
use Rattle.layout.specs.Header.{reserved}
use Rattle.layout.specs.Records.{chain_count, count_of, head_of, machines_for, chain_at, Fit, Ordered, ChainOk, counts_to, used}
use Rattle.layout.specs.Accepted.{Good, Accepted, room}
use Rattle.layout.specs.Packed.{used_to, used_in, packed_records, packed_start, packed_chain, packed_head, packed_count, chain_recs, packed_words}
use Rattle.layout.proofs.Order.{free_order}
use Rattle.layout.proofs.ChainWords.{count_le, Copied, limits_copied, slots_copied, machines_copied, reserve_copied}
use Rattle.layout.proofs.TwoKept.{is_ok, free_fit}
use Rattle.layout.proofs.Counts.{reserve_state, reserve_words}
use Rattle.layout.proofs.PackedChains.{length_contents, placed, Marked}
use Rattle.layout.proofs.PackedBack.{length_free, length_packed, packed_held, packed_linked, free_marked}
use Rattle.layout.proofs.PackedHeader.{pack_head, head_copied, head_is, count_is, from_length, from_head, from_rest}

-- ---- a chain in other records: what it may hold and its order are the records' own

fit_placed : (k m p : ℕ) (l : List Node) → Fit k m l → Fit k m (placed p (recs l))
unfolding Fit placed
fit_placed k m p [] f = tt
fit_placed k m p (x ∷ l) f = (f.0, fit_placed k m (suc p) l f.1)

order_placed : (k m r p : ℕ) (l : List Node) → Ordered k m r l → Ordered k m r (placed p (recs l))
unfolding Ordered placed
order_placed k m r p [] o = tt
order_placed k m r p (x ∷ l) o = (o.0, order_placed k x.rec.moment (kind_field x.rec.tag) (suc p) l o.1)

fit_marked : (k m : ℕ) (l : List Node) → Fit k m l → Marked k (recs l)
unfolding Fit
fit_marked k m [] f = tt
fit_marked k m (x ∷ l) f = (f.0.shape.chain, fit_marked k m l f.1)

-- ---- the counts

-- the records of the chains, by their counts
used_counts : (h rs : List ℕ) (k : ℕ) → count_of h 0 + used_to (chain_recs h rs) k ≡ counts_to h (suc k)
unfolding counts_to used_to
used_counts h rs zero = omega arith
used_counts h rs (suc k) = omega (arith, used_counts h rs k, length_contents rs (count_of h (suc k)) (head_of h (suc k)))

module _ (f : ℕ → ℕ) (c : ℕ → List Rec) (r : ℕ) where
  counts_packed : (k : ℕ) → k < chain_count → counts_to (pack_head f c r) (suc k) ≡ packed_count c r 0 + used_to c k
  unfolding counts_to used_to
  counts_packed zero l = omega (arith, count_is f c r 0 l)
  counts_packed (suc k) l = omega (arith, counts_packed k (omega arith), count_is f c r (suc k) l)

-- ---- a header and the records after it

module _ (h rs : List ℕ) (f : ℕ → ℕ) (old : (i : ℕ) → i < 256 → f i ≡ get_or h i 0) (g : Good h rs) where
  abbrev c : ℕ → List Rec
  c = chain_recs h rs

  abbrev r : ℕ
  r = room rs

  abbrev h' : List ℕ
  h' = pack_head f c r

  abbrev rs' : List ℕ
  rs' = packed_records c r

  pub used_all : used_in c ≡ used h rs
  used_all = omega (arith, used_counts h rs (chain_count - 1), g.counts)

  pub used_fits : used_in c ≤ r
  used_fits = omega (arith, used_all)

  pub room_kept : room rs' ≡ r
  room_kept = omega (arith, length_packed c r used_fits)

  pub words_copied : (i : ℕ) → Copied i → get_or h' i 0 ≡ get_or h i 0
  words_copied i o = head_copied f c r i o ∙ old i (low o)
    where
      low : Copied i → i < 256
      low (inl a) = omega arith
      low (inr a) = omega (arith, a.1)

  counts_kept : counts_to h' chain_count ≡ room rs'
  counts_kept = omega (arith, counts_packed f c r (chain_count - 1) (omega arith), length_free c r, used_fits, room_kept)

  chain_marked : (k : ℕ) → k < chain_count → Marked k (packed_chain c r k)
  chain_marked zero l = free_marked c r used_fits
  chain_marked (suc k) l = fit_marked (suc k) (machines_for h (suc k)) (chain_at h rs (suc k)) (g.chains (suc k) l).fit

  pub chain_held : (k : ℕ) → k < chain_count → Is k rs' (packed_count c r k) (packed_head c r k) (placed (packed_start c k) (packed_chain c r k))
  chain_held k l = record { chain = packed_linked c r used_fits k l (chain_marked k l); held = packed_held c r used_fits k l }

  chain_count_lem : (k : ℕ) → k < chain_count → count_of h' k ≤ length rs' / 4
  chain_count_lem k l = omega (arith, count_le h' k chain_count l, counts_kept)

  chain_packed : (k : ℕ) → k < chain_count → ChainOk h' rs' k
  chain_packed zero l =
      is_ok h' rs' 0 _ _ _ (count_is f c r 0 l) (head_is f c r 0 l) (chain_held 0 l) (free_fit rs' (machines_for h' 0) _ _ _ (chain_held 0 l)) (free_order 0 0 _)
      (chain_count_lem 0 l)
  chain_packed (suc k) l =
      is_ok h' rs' (suc k) _ _ _ (count_is f c r (suc k) l) (head_is f c r (suc k) l) (chain_held (suc k) l)
      (fit_placed (suc k) (machines_for h' (suc k)) (packed_start c (suc k)) (chain_at h rs (suc k)) machined)
      (order_placed (suc k) 0 0 (packed_start c (suc k)) (chain_at h rs (suc k)) (g.chains (suc k) l).order) (chain_count_lem (suc k) l)
    where
      machined : Fit (suc k) (machines_for h' (suc k)) (chain_at h rs (suc k))
      machined = subst (λ m. Fit (suc k) m (chain_at h rs (suc k))) (sym (machines_copied h h' words_copied (suc k) l)) (g.chains (suc k) l).fit

  free_count : count_of h' 0 ≡ r - used_in c
  free_count = count_is f c r 0 (omega arith) ∙ length_free c r

  reserve_kept : used h' rs' + reserved h' ≤ room rs'
  reserve_kept = omega (arith, room_kept, free_count, used_all, used_fits, reserve_copied h h' words_copied, reserve_words h rs g)

  pub packed_good : Good h' rs'
  packed_good =
      record {
        limits = limits_copied h h' words_copied g.limits;
        slots = slots_copied h h' words_copied g.slots;
        chains = chain_packed;
        counts = counts_kept;
        reserve = reserve_state h' rs' counts_kept reserve_kept;
      }

-- ---- the words

pub old_word : (w : List ℕ) (i : ℕ) → i < 256 → get_or w i 0 ≡ get_or (take 256 w) i 0
old_word w i l = sym (get_or-take 256 w i 0 l)

module _ (w : List ℕ) (a : Accepted w) where
  abbrev f : ℕ → ℕ
  f i = get_or w i 0

  pub packed_size : length (packed_words w) ≡ length w
  unfolding packed_words
  packed_size =
      from_length f (chain_recs (take 256 w) (drop 256 w)) (room (drop 256 w)) (used_fits (take 256 w) (drop 256 w) f (old_word w) a.good)
      ∙ omega (arith, length-drop 256 w, a.size.least, a.size.whole)

  pub packed_accepted : Accepted (packed_words w)
  unfolding packed_words
  packed_accepted =
      record {
        size = rw packed_size a.size;
        good =
            rw (from_head f (chain_recs (take 256 w) (drop 256 w)) (room (drop 256 w)), from_rest f (chain_recs (take 256 w) (drop 256 w)) (room (drop 256 w)))
            (packed_good (take 256 w) (drop 256 w) f (old_word w) a.good);
      }
