-- What is packed holds the packed state. Assumes nothing.
use Prim.Native.Nat.{ℕ, zero, suc, ◌+◌, ◌-◌, ◌*◌, ◌≤◌, ◌<◌}
use mathlib.Core.Path.{◌≡◌, refl, sym, ap, ap₂, subst, ◌∙◌}
use mathlib.Core.Bool.{Bool, true, false}
use mathlib.Core.List.{List, [], ◌∷◌, map}
use mathlib.Core.Logic.{inl, inr}
use native.Mathlib.Omega.{arith}
use lib.Dec.{ltb, lit<}
use lib.ListN.{length, get_or, take, drop, replicate}
use borrow.Author.Tests.{ltb-true}
use Rattle.std.specs.Prelude.{if◌then◌else◌}
use Rattle.rules.specs.Basics.{Side, client, server}
use Rattle.rules.specs.State.{Held, in_record, SideState, queued, side_used, used as used_of}
use Rattle.rules.specs.Opening.{up_from}
use Rattle.rules.specs.Packing.{numbered, packed_side, packed}
use Rattle.queue_event.specs.Chain.{Rec, Node, recs, nodes}
use Rattle.layout.specs.Records.{chain_count, count_of, head_of}
use Rattle.layout.specs.Layout.{event_from, aggregate_from, held_event, held_stamp, place_of, bank, chains, side_from, build, state_from, state_of}
use Rattle.layout.specs.Accepted.{Good, Accepted, room}
use Rattle.layout.specs.Packed.{used_to, used_in, packed_records, packed_start, packed_chain, chain_recs, packed_words}
use Rattle.layout.proofs.Banks.{by_points, chains_at}
use Rattle.layout.proofs.Counts.{length_map, length_nodes, used_is}
use Rattle.layout.proofs.PackedChains.{used_next, length_contents, placed}
use Rattle.layout.proofs.PackedHeader.{pack_head, head_is, count_is, from_head, from_rest}
use Rattle.layout.proofs.PackedGood.{used_all, room_kept, words_copied, chain_held, old_word}

-- ---- values in records, by number

-- a value of a record, with the record's number
abbrev valued : {A : Type 0} → (Rec → A) → Node → Held A
valued v x = in_record x.at (v x.rec)

placed_values : {A : Type 0} (v : Rec → A) (p : ℕ) (l : List Node) → map (valued v) (placed p (recs l)) ≡ numbered p (map (valued v) l)
unfolding placed
placed_values v p [] = refl
placed_values v p (x ∷ l) = ap (λ q. in_record p (v x.rec) ∷ q) (placed_values v (suc p) l)

placed_numbers : (p n : ℕ) (x : Rec) → map place_of (placed p (replicate n x)) ≡ up_from p n
unfolding placed
placed_numbers p zero x = refl
placed_numbers p (suc n) x = ap (λ q. p ∷ q) (placed_numbers (suc p) n x)

-- ---- a header and the records after it

-- the words that a state is built from, of the words 0 to 23
abbrev low : (ℕ → ℕ) → ℕ → ℕ
low f i = if ltb i 18 then f i else 0

module _ (h rs : List ℕ) (f : ℕ → ℕ) (old : (i : ℕ) → i < 256 → f i ≡ get_or h i 0) (g : Good h rs) where
  abbrev c : ℕ → List Rec
  c = chain_recs h rs

  abbrev r : ℕ
  r = room rs

  abbrev h' : List ℕ
  h' = pack_head f c r

  abbrev rs' : List ℕ
  rs' = packed_records c r

  -- ---- the header

  low_same : low (bank 0 24 h') ≡ low (bank 0 24 h)
  unfolding bank
  low_same = by_points _ _ (λ i. go i (ltb i 18) refl)
    where
      go : (i : ℕ) (t : Bool) → ltb i 18 ≡ t
          → (if t then (if ltb i 24 then get_or h' (0 + i) 0 else 0) else 0) ≡ (if t then (if ltb i 24 then get_or h (0 + i) 0 else 0) else 0)
      go i true e = ap (λ x. if ltb i 24 then x else 0) (words_copied h rs f old g (0 + i) (inl (omega (arith, ltb-true i 18 e))))
      go i false e = refl

  bank_same : (b n : ℕ) → 64 ≤ b → b + n ≤ 192 → bank b n h' ≡ bank b n h
  unfolding bank
  bank_same b n p q = by_points _ _ (λ i. go i (ltb i n) refl)
    where
      go : (i : ℕ) (t : Bool) → ltb i n ≡ t → (if t then get_or h' (b + i) 0 else 0) ≡ (if t then get_or h (b + i) 0 else 0)
      go i true e = words_copied h rs f old g (b + i) (inr (omega arith, omega (arith, ltb-true i n e)))
      go i false e = refl

  -- ---- the chains

  read : (k : ℕ) → k < chain_count → chains h' rs' k ≡ placed (packed_start c k) (packed_chain c r k)
  read k l = chains_at h' rs' k l ∙ ap₂ (nodes rs') (count_is f c r k l) (head_is f c r k l) ∙ (chain_held h rs f old g k l).held

  -- chain k + 1, of number j, where it starts at record p
  chain_values :
      {A : Type 0} (v : Rec → A) (j k p : ℕ) → j ≡ suc k → j < chain_count → suc (used_to c k) ≡ p
      → map (valued v) (chains h' rs' j) ≡ numbered p (map (valued v) (chains h rs j))
  chain_values v j k p q l e = subst (λ i. map (valued v) (chains h' rs' i) ≡ numbered p (map (valued v) (chains h rs i))) (sym q) go
    where
      small : suc k < chain_count
      small = omega (arith, q, l)

      go : map (valued v) (chains h' rs' (suc k)) ≡ numbered p (map (valued v) (chains h rs (suc k)))
      go =
          ap (map (valued v)) (read (suc k) small) ∙ placed_values v (suc (used_to c k)) (nodes rs (count_of h (suc k)) (head_of h (suc k)))
          ∙ ap₂ (λ n x. numbered n (map (valued v) x)) e (sym (chains_at h rs (suc k) small))

  -- and the one after it
  next_start :
      {B : Type 0} (v : Node → B) (j k p : ℕ) → j ≡ suc k → j < chain_count → suc (used_to c k) ≡ p
      → suc (used_to c j) ≡ p + length (map v (chains h rs j))
  next_start v j k p q l e = subst (λ i. suc (used_to c i) ≡ p + length (map v (chains h rs i))) (sym q) go
    where
      long : length (map v (chains h rs (suc k))) ≡ count_of h (suc k)
      long =
          length_map v (chains h rs (suc k)) ∙ ap length (chains_at h rs (suc k) (omega (arith, q, l))) ∙ length_nodes rs (count_of h (suc k)) (head_of h (suc k))

      go : suc (used_to c (suc k)) ≡ p + length (map v (chains h rs (suc k)))
      go = omega (arith, e, used_next c k, length_contents rs (count_of h (suc k)) (head_of h (suc k)), long)

  -- ---- a side, of number n, whose chains start at record p

  module _ (z : Side) (n : ℕ) (small : n < 2) (p : ℕ) (e : suc (used_to c (5 * n)) ≡ p) (lows timers actions : ℕ → ℕ) where
    abbrev x : SideState
    x = side_from z n lows timers actions (chains h rs)

    second : suc (used_to c (1 + 5 * n)) ≡ p + length x.queues.base
    second = next_start (held_event z) (1 + 5 * n) (5 * n) p (omega arith) (omega arith) e

    third : suc (used_to c (2 + 5 * n)) ≡ p + length x.queues.base + length x.queues.blocking
    third = next_start (held_event z) (2 + 5 * n) (1 + 5 * n) _ (omega arith) (omega arith) second

    fourth : suc (used_to c (3 + 5 * n)) ≡ p + length x.queues.base + length x.queues.blocking + length x.queues.bypassable
    fourth = next_start (held_event z) (3 + 5 * n) (2 + 5 * n) _ (omega arith) (omega arith) third

    fifth : suc (used_to c (4 + 5 * n)) ≡ p + queued x
    fifth = next_start (held_event z) (4 + 5 * n) (3 + 5 * n) _ (omega arith) (omega arith) fourth ∙ omega arith

    side_end : suc (used_to c (5 + 5 * n)) ≡ p + side_used x
    side_end = next_start held_stamp (5 + 5 * n) (4 + 5 * n) (p + queued x) (omega arith) (omega arith) fifth ∙ omega arith

    side_packed : side_from z n lows timers actions (chains h' rs') ≡ packed_side p x
    side_packed = λ d.
        record {
          fixed = x.fixed;
          sum = x.sum;
          block_end = x.block_end;
          block_bypassable = x.block_bypassable;
          queues =
              record {
                base = chain_values (event_from z) (1 + 5 * n) (5 * n) p (omega arith) (omega arith) e d;
                blocking = chain_values (event_from z) (2 + 5 * n) (1 + 5 * n) _ (omega arith) (omega arith) second d;
                bypassable = chain_values (event_from z) (3 + 5 * n) (2 + 5 * n) _ (omega arith) (omega arith) third d;
                internal = chain_values (event_from z) (4 + 5 * n) (3 + 5 * n) _ (omega arith) (omega arith) fourth d;
              };
          stamps = chain_values (λ (q : Rec). q.moment) (5 + 5 * n) (4 + 5 * n) (p + queued x) (omega arith) (omega arith) fifth d;
          timers = x.timers;
          actions = x.actions;
        }

  -- ---- the state

  free_numbers : map place_of (chains h' rs' 0) ≡ up_from (1 + used_of (state_from h rs)) (r - used_of (state_from h rs))
  free_numbers =
      ap (map place_of) (read 0 (lit< tt)) ∙ placed_numbers (suc (used_in c)) (r - used_in c) _ ∙ ap₂ up_from (omega (arith, same)) (ap (λ u. r - u) same)
    where
      same : used_in c ≡ used_of (state_from h rs)
      same = used_all h rs f old g ∙ sym (used_is h rs g.counts)

  abbrev lows : ℕ → ℕ
  lows = low (bank 0 24 h)

  client_start : suc (used_to c (5 * 0)) ≡ 1
  unfolding used_to
  client_start = refl

  server_start : suc (used_to c (5 * 1)) ≡ 1 + side_used (side_from client 0 lows (bank 64 32 h) (bank 96 96 h) (chains h rs))
  server_start = side_end client 0 (lit< tt) 1 client_start lows (bank 64 32 h) (bank 96 96 h)

  pub state_packed : state_from h' rs' ≡ packed (state_from h rs)
  unfolding state_from packed
  state_packed =
      (
      λ d.
      build (low_same d) (bank_same 64 32 (omega arith) (omega arith) d) (bank_same 96 96 (omega arith) (omega arith) d) (chains h' rs')
      (room_kept h rs f old g d)
      )
      ∙ (
      λ d.
      record {
        settings = (state_from h rs).settings;
        client = side_packed client 0 (lit< tt) 1 client_start lows (bank 64 32 h) (bank 96 96 h) d;
        server = side_packed server 1 (lit< tt) _ server_start lows (bank 64 32 h) (bank 96 96 h) d;
        aggregates =
            chain_values aggregate_from 11 10 _ refl (lit< tt) (side_end server 1 (lit< tt) _ server_start lows (bank 64 32 h) (bank 96 96 h)) d;
        free = free_numbers d;
        ended = (state_from h rs).ended;
        rounds = (state_from h rs).rounds;
        room = r;
      }
      )

pub packed_state : (w : List ℕ) → Accepted w → state_of (packed_words w) ≡ packed (state_of w)
unfolding packed_words
packed_state w a =
    ap₂ state_from (from_head f c r) (from_rest f c r) ∙ state_packed (take 256 w) (drop 256 w) f (old_word w) a.good
  where
    f : ℕ → ℕ
    f i = get_or w i 0

    c : ℕ → List Rec
    c = chain_recs (take 256 w) (drop 256 w)

    r : ℕ
    r = room (drop 256 w)
