-- The header written: each of its words, and the heads and counts that stand in it. Assumes nothing.
use Prim.Native.Nat.{ℕ, zero, suc, ◌+◌, ◌-◌, ◌≤◌, ◌<◌}
use mathlib.Core.Path.{◌≡◌, refl, sym, ap, subst, ◌∙◌}
use mathlib.Core.List.{List}
use native.Mathlib.Omega.{arith}
use native.Mathlib.Decide.{ℕ_discrete}
use lib.ListN.{length, get_or, set, take, drop, length-set}
use lib.Seq.{get_or-set_same, get_or-set_other, get_or-take, length-take-le, ext_get_or}
use borrow.Author.Tests.{eq-eqb, ne_eqb}
use Rattle.layout.specs.Opened.{table}
use Rattle.layout.proofs.Tables.{length_table, table_at}
use Rattle.std.proofs.lemmas.List.{get_or-drop}
use Rattle.std.proofs.Math.ListN.{get_or-map}
use Rattle.std.proofs.Math.Seq.{map-set, map-set_same}
use Rattle.queue_event.specs.declared.chain.Entry.{Entry}
use Rattle.packing.specs.Heads.{heads_of, counts_of, sum_to, first_for, start_of, header_from, Starts, HeaderTo}

-- ---- words written one after another

-- all that f gives
all_words : (f : ℕ → ℕ) (l : List ℕ) (n : ℕ) → n ≤ length l → ((i : ℕ) → i < n → get_or l i 0 ≡ f i) → take n l ≡ table n f
all_words f l n b c = ext_get_or 0 (take n l) (table n f) (long ∙ sym (length_table n f)) (λ i q. go i (rw long at q))
  where
    long : length (take n l) ≡ n
    long = length-take-le n l b

    go : (i : ℕ) → i < n → get_or (take n l) i 0 ≡ get_or (table n f) i 0
    go i q = get_or-take n l i 0 q ∙ c i q ∙ sym (table_at n f i q)

-- ---- the words of the new header

module _ (h heads counts out₀ : List ℕ) where
  pub header_all :
      (out : List ℕ) (i : ℕ) → 256 ≤ length out₀ → 256 ≤ i → HeaderTo h heads counts out₀ out i
      → take 256 out ≡ table 256 (header_from h heads counts)
  header_all out i b l c = all_words (header_from h heads counts) out 256 (omega (arith, c.len)) (λ j q. c.words j (omega arith))

-- ---- heads

pub first_none : (p n : ℕ) → n ≡ 0 → 0 ≡ first_for p n
unfolding first_for
first_none p n e = rw (eq-eqb n 0 e) refl

pub first_some : (p n : ℕ) → (n ≡ 0 → ⊥) → p ≡ first_for p n
unfolding first_for
first_some p n d = rw (ne_eqb n 0 d) refl

pub sum_next : (counts : List ℕ) (k : ℕ) → sum_to counts (suc k) ≡ sum_to counts k + get_or counts (suc k) 0
unfolding sum_to
sum_next counts k = refl

sum_more : (counts : List ℕ) (d e : ℕ) → sum_to counts d ≤ sum_to counts (e + d)
sum_more counts d zero = subst (λ k. sum_to counts d ≤ sum_to counts k) (same d) (omega arith)
  where
    same : (d : ℕ) → d ≡ 0 + d
    same d = omega arith
sum_more counts d (suc e) = subst (λ k. sum_to counts d ≤ sum_to counts k) (next e d) (omega (arith, sum_more counts d e, sum_next counts (e + d)))
  where
    next : (e d : ℕ) → suc (e + d) ≡ suc e + d
    next e d = omega arith

pub sum_least : (counts : List ℕ) (d e : ℕ) → d ≤ e → sum_to counts d ≤ sum_to counts e
sum_least counts d e l = subst (λ k. sum_to counts d ≤ sum_to counts k) sum (sum_more counts d (e - d))
  where
    sum : e - d + d ≡ e
    sum = omega arith

pub starts_none : (counts starts : List ℕ) → length starts ≡ 12 → Starts counts starts 0 1
unfolding sum_to
starts_none counts starts e = record { most = omega arith; long = e; next = refl; heads = λ k q. absurd (omega arith) }

pub starts_fit :
    (counts starts : List ℕ) (k place : ℕ) → sum_to counts 11 ≤ 65535 → 1 ≤ k → k < 12 → Starts counts starts (k - 1) place
    → place + get_or counts k 0 ≤ 65536
starts_fit counts starts zero place m o l c = absurd (omega (arith, o))
starts_fit counts starts (suc d) place m o l c =
    let same : suc d - 1 ≡ d = omega arith in
    omega (arith, (rw same at c).next, sum_next counts d, sum_least counts (suc d) 11 (omega arith))

pub starts_turn :
    (counts starts : List ℕ) (k place v : ℕ) → 1 ≤ k → k < 12 → v ≡ first_for place (get_or counts k 0) → Starts counts starts (k - 1) place
    → Starts counts (set starts k v) (k + 1 - 1) (place + get_or counts k 0)
starts_turn counts starts zero place v o l e c = absurd (omega (arith, o))
starts_turn counts starts (suc d) place v o l e s =
    let before : suc d - 1 ≡ d = omega arith in
    let after : suc d + 1 - 1 ≡ suc d = omega arith in
    rw after (turn (rw before at s))
  where
    turn : Starts counts starts d place → Starts counts (set starts (suc d) v) (suc d) (place + get_or counts (suc d) 0)
    turn c = record {
      most = omega arith;
      long = length-set starts (suc d) v ∙ c.long;
      next = omega (arith, c.next, sum_next counts d);
      heads = λ k q. go k q (ℕ_discrete k d);
    }
      where
        go : (k : ℕ) → k < suc d → Dec (k ≡ d) → get_or (set starts (suc d) v) (suc k) 0 ≡ start_of counts (suc k)
        go k q (yes z) =
            ap (λ j. get_or (set starts (suc d) v) (suc j) 0) z ∙ get_or-set_same starts (suc d) v 0 (omega (arith, c.long)) ∙ e
            ∙ ap (λ p. first_for p (get_or counts (suc d) 0)) c.next ∙ ap (λ j. start_of counts (suc j)) (sym z)
        go k q (no n) = get_or-set_other starts (suc d) (suc k) v 0 (λ x. n (omega arith)) ∙ c.heads k (omega arith)

pub starts_all :
    (counts starts : List ℕ) (n place v : ℕ) → 12 ≤ n → v ≡ first_for place (get_or counts 0 0) → Starts counts starts (n - 1) place
    → (k : ℕ) → k < 12 → get_or (set starts 0 v) k 0 ≡ start_of counts k
starts_all counts starts n place v l e c zero q =
    get_or-set_same starts 0 v 0 (omega (arith, c.long)) ∙ e ∙ ap (λ p. first_for p (get_or counts 0 0)) (c.next ∙ ap (λ j. suc (sum_to counts j)) all)
  where
    all : n - 1 ≡ 11
    all = omega (arith, c.most)
starts_all counts starts n place v l e c (suc k) q = get_or-set_other starts 0 (suc k) v 0 (λ x. omega arith) ∙ c.heads k (omega arith)

-- ---- chains, each a head and a count

abbrev pub none : Entry
none = record { head = 0; count = 0 }

module _ (l : List Entry) (k : ℕ) where
  pub head_at : (get_or l k none).head ≡ get_or (heads_of l) k 0
  head_at = sym (get_or-map (λ (c : Entry). c.head) l k none)

  pub count_at : (get_or l k none).count ≡ get_or (counts_of l) k 0
  count_at = sym (get_or-map (λ (c : Entry). c.count) l k none)

  -- in the chains from 1 on
  next_at : k < 11 → get_or (take 11 (drop 1 l)) k none ≡ get_or l (suc k) none
  next_at q = let same : 1 + k ≡ suc k = omega arith in get_or-take 11 (drop 1 l) k none q ∙ get_or-drop 1 l k none ∙ ap (λ j. get_or l j none) same

  pub next_head : k < 11 → (get_or (take 11 (drop 1 l)) k none).head ≡ get_or (heads_of l) (suc k) 0
  next_head q = ap (λ (c : Entry). c.head) (next_at q) ∙ sym (get_or-map (λ (c : Entry). c.head) l (suc k) none)

  pub next_count : k < 11 → (get_or (take 11 (drop 1 l)) k none).count ≡ get_or (counts_of l) (suc k) 0
  next_count q = ap (λ (c : Entry). c.count) (next_at q) ∙ sym (get_or-map (λ (c : Entry). c.count) l (suc k) none)

  heads_set : (x : Entry) → heads_of (set l k x) ≡ set (heads_of l) k x.head
  heads_set x = map-set (λ (c : Entry). c.head) l k x

  counts_set : (x : Entry) → counts_of (set l k x) ≡ set (counts_of l) k x.count
  counts_set x = map-set (λ (c : Entry). c.count) l k x

  -- a chain whose head alone is new
  counts_kept : (a : ℕ) → counts_of (set l k (record { head = a; count = (get_or l k none).count })) ≡ counts_of l
  counts_kept a = map-set_same (λ (c : Entry). c.count) l k (record { head = a; count = (get_or l k none).count }) none refl

module _ (chains packed : List Entry) (k place v : ℕ) (ev : v ≡ first_for place (get_or chains k none).count) where
  pub packed_turn :
      1 ≤ k → k < 12 → (counts_of packed ≡ counts_of chains) × Starts (counts_of chains) (heads_of packed) (k - 1) place
      → (counts_of (set packed k (record { head = v; count = (get_or packed k none).count })) ≡ counts_of chains)
      × Starts (counts_of chains) (heads_of (set packed k (record { head = v; count = (get_or packed k none).count }))) (k + 1 - 1) (place + (get_or chains k none).count)
  packed_turn o l s = (
    counts_kept packed k v ∙ s.0,
    rw (heads_set packed k (record { head = v; count = (get_or packed k none).count }), count_at chains k) (starts_turn (counts_of chains) (heads_of packed) k place v o l (rw (count_at chains k) at ev) s.1),
  )
