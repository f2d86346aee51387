-- Laws of what the loops over a chain find, as the rules say it of the state held. Assumes nothing.
use Prim.Native.Nat.{ℕ, ◌+◌, ◌-◌, ◌*◌, ◌≤◌, ◌<◌, ◌^◌, max}
use mathlib.Core.Path.{◌≡◌, refl, sym, ap, ap₂, ◌∙◌}
use mathlib.Core.Bool.{Bool, true, false, ◌||◌}
use mathlib.Core.List.{List, [], ◌∷◌, ◌++◌, map, tail}
use mathlib.Core.Logic.{◌⊎◌, inl, inr}
use mathlib.Core.Option.{none, some}
use native.Mathlib.Omega.{arith}
use lib.Dec.{leb}
use lib.ListN.{length, length-append}
use borrow.Author.Tests.{lt-ltb, le-ltb}
use Rattle.std.specs.Prelude.{Option, Some, if◌then◌else◌}
use Rattle.rules.specs.Basics.{Side}
use Rattle.rules.specs.State.{Event, Held, SideState, side}
use Rattle.rules.specs.Aggregates.{any_within, waiting, base_moment}
use Rattle.rules.specs.Limits.{moment_limit}
use Rattle.queue_event.specs.Words.{moment_of}
use Rattle.queue_event.specs.Chain.{Node, nodes, rec_at, recs, pick}
use Rattle.queue_event.specs.Order.{Sorted}
use Rattle.queue_event.specs.Folds.{later, latest_of, any_within as any_rec}
use Rattle.queue_event.specs.Walks.{left, Walked}
use Rattle.queue_event.specs.declared.chain.Linked.{Linked}
use Rattle.queue_event.specs.declared.read.Record.{Record}
use Rattle.layout.specs.Records.{head_of, count_of, chain_at, Fit}
use Rattle.layout.specs.Accepted.{Good}
use Rattle.layout.specs.Layout.{state_from, chains, held_event, event_from}
use Rattle.layout.specs.Changes.{side_no}
use Rattle.queue_event.proofs.Laws.{nodes_next}
use Rattle.queue_event.proofs.Folds.{sorted_rest}
use Rattle.layout.proofs.Banks.{chains_at}
use Rattle.layout.proofs.TwoChains.{queue_built}
use Rattle.layout.proofs.Counts.{length_map, length_nodes}
use Rattle.layout.proofs.Tails.{ordered_sorted}
use Rattle.queue.specs.declared.header.Queue.{Queue}
use Rattle.queue.specs.declared.header.Queue.TheVariants.{Base, Blocking, Bypassable, Internal}
use Rattle.queue.specs.Queues.{queue_no, queue_of}
use Rattle.queue.proofs.HeadsChains.{chain_number, queue_range}
use Rattle.delay.specs.Waiting.{held_in, behind_in, any_in, tail_over, burst_tail_over}
use Rattle.delay.specs.Tests.{without, Packets}

-- ---- the chains of a side, as they stand in the words

tail_map : {A B : Type 0} (f : A → B) (xs : List A) → tail (map f xs) ≡ map f (tail xs)
tail_map f [] = refl
tail_map f (x ∷ xs) = refl

-- k is the chain of the side's queue q
module _ (h rs : List ℕ) (z : Side) (q : Queue) (k : ℕ) (ek : k ≡ queue_no q + 5 * side_no z) (l : k ≤ 10) where
  -- what it holds
  held_is : held_in (side (state_from h rs) z) q ≡ map (held_event z) (chain_at h rs k)
  unfolding held_in
  held_is = queue_built h rs z (queue_of q) ∙ ap (λ i. map (held_event z) (chains h rs i)) (chain_number q z ∙ sym ek) ∙ ap (map (held_event z)) (chains_at h rs k (omega arith))

  held_length : length (held_in (side (state_from h rs) z) q) ≡ count_of h k
  held_length = ap length held_is ∙ length_map (held_event z) (chain_at h rs k) ∙ length_nodes rs (count_of h k) (head_of h k)

  module _ (xs : List Node) (e : xs ≡ chain_at h rs k) where
    -- in order
    pub chain_sorted : Good h rs → Sorted xs
    chain_sorted g = rw e (ordered_sorted k 0 0 _ (omega (arith, queue_range q)) (g.chains k (omega arith)).order)

    pub rest_sorted : Good h rs → (y : Node) (ys : List Node) → xs ≡ y ∷ ys → Sorted ys
    rest_sorted g y ys ey = sorted_rest y xs ys ey (chain_sorted g)

    behind_is : behind_in (side (state_from h rs) z) q ≡ map (held_event z) (tail xs)
    unfolding behind_in
    behind_is = ap tail held_is ∙ ap (λ x. tail (map (held_event z) x)) (sym e) ∙ tail_map (held_event z) xs

-- ---- folds over records, and the rules' over events

any_map : (z : Side) (from width : ℕ) (l : List Node) → any_rec from width (recs l) ≡ any_in width from (map (held_event z) l)
unfolding any_rec any_in event_from
any_map z from width [] = refl
any_map z from width (x ∷ l) = ap (λ b. leb (x.rec.moment - from) width || b) (any_map z from width l)

latest_map : (z : Side) (from width best : ℕ) (l : List Node) → latest_of from width best (recs l) ≡ tail_over width from best (map (held_event z) l)
unfolding latest_of later tail_over event_from
latest_map z from width best [] = refl
latest_map z from width best (x ∷ l) =
    latest_map z from width (later from width best x.rec.moment) l
    ∙ ap (λ t. tail_over width from t (map (held_event z) l)) (same (leb (x.rec.moment - from) width))
  where
    same : (t : Bool) → pick t (max best x.rec.moment) best ≡ (if t then max best x.rec.moment else best)
    same true = refl
    same false = refl

-- ---- any_in, any_behind, latest_in

module _ (h rs : List ℕ) (z : Side) (q : Queue) (k : ℕ) (ek : k ≡ queue_no q + 5 * side_no z) (l : k ≤ 10) (xs : List Node) (e : xs ≡ chain_at h rs k) (from width : ℕ) where
  pub any_held : (r : Bool) → r ≡ any_rec from width (recs xs) → r ≡ any_in width from (held_in (side (state_from h rs) z) q)
  any_held r er = er ∙ any_map z from width xs ∙ ap (λ x. any_in width from (map (held_event z) x)) e ∙ ap (any_in width from) (sym (held_is h rs z q k ek l))

  pub any_rest : (y : Node) (ys : List Node) (r : Bool) → xs ≡ y ∷ ys → r ≡ any_rec from width (recs ys) → r ≡ any_in width from (behind_in (side (state_from h rs) z) q)
  any_rest y ys r ey er =
      er ∙ any_map z from width ys ∙ ap (λ x. any_in width from (map (held_event z) (tail x))) (sym ey) ∙ ap (any_in width from) (sym (behind_is h rs z q k ek l xs e))

  -- an empty chain has nothing behind its head
  pub any_empty : xs ≡ [] → false ≡ any_in width from (behind_in (side (state_from h rs) z) q)
  unfolding any_in
  any_empty en = ap (λ x. any_in width from (map (held_event z) (tail x))) (sym en) ∙ ap (any_in width from) (sym (behind_is h rs z q k ek l xs e))

  pub latest_held : (best r : ℕ) → r ≡ latest_of from width best (recs xs) → r ≡ tail_over width from best (held_in (side (state_from h rs) z) q)
  latest_held best r er = er ∙ latest_map z from width best xs ∙ ap (λ x. tail_over width from best (map (held_event z) x)) e ∙ ap (tail_over width from best) (sym (held_is h rs z q k ek l))

-- any_rest after a turn of a walk, in the order in which a search finds it
pub any_next :
    (s t : Linked) (o : Option Record) → Walked s o t → (x : Record) → o ≡ Some x → (h rs : List ℕ) (k : ℕ) → left s ≡ chain_at h rs k
    → (z : Side) (q : Queue) → (k ≡ queue_no q + 5 * side_no z) × (k ≤ 10)
    → (from width : ℕ) (r : Bool) → r ≡ any_rec from width (recs (left t)) → r ≡ any_in width from (behind_in (side (state_from h rs) z) q)
any_next s t o w x ex h rs k e z q ek from width r er =
    let u : Walked s (Some x) t = rw ex at w in any_rest h rs z q k ek.0 ek.1 _ e from width _ _ r u.0 er

-- ---- adjacent, beside

any_append : (width u : ℕ) (a b : List (Held Event)) → any_in width u (a ++ b) ≡ any_in width u a || any_in width u b
unfolding any_in
any_append width u [] b = refl
any_append width u (x ∷ a) b = go (leb (x.value.moment - u) width) (any_append width u a b)
  where
    go : (t : Bool) → any_within width u (a ++ b) ≡ any_within width u a || any_within width u b → t || any_within width u (a ++ b) ≡ (t || any_within width u a) || any_within width u b
    go true e = refl
    go false e = e

-- by the answer for some of the packets that wait, and that for the others
module _ (x : SideState) (width u : ℕ) (a b : Bool) where
  near_waiting : any_in width u (held_in x Blocking) || any_in width u (held_in x Bypassable) ≡ any_within width u (waiting x)
  unfolding any_in held_in
  near_waiting = sym (any_append width u (held_in x Blocking) (held_in x Bypassable))

  pub adjacent_first : a ≡ any_in width u (held_in x Blocking) → a ≡ true → a ≡ any_within width u (waiting x)
  adjacent_first ea t = t ∙ ap (λ c. c || any_in width u (held_in x Bypassable)) (sym t ∙ ea) ∙ near_waiting

  pub adjacent_second : a ≡ any_in width u (held_in x Blocking) → a ≡ false → b ≡ any_in width u (held_in x Bypassable) → b ≡ any_within width u (waiting x)
  adjacent_second ea t eb = eb ∙ ap (λ c. c || any_in width u (held_in x Bypassable)) (sym t ∙ ea) ∙ near_waiting

-- the queue whose head is left out, and the other of the two
abbrev pub Both : Queue → Queue → Type 0
Both q p = ((q ≡ Blocking) × (p ≡ Bypassable)) ⊎ ((q ≡ Bypassable) × (p ≡ Blocking))

or_turned : (a b : Bool) → a || b ≡ b || a
or_turned true true = refl
or_turned true false = refl
or_turned false true = refl
or_turned false false = refl

module _ (x : SideState) (width u : ℕ) where
  without_blocking : any_in width u (behind_in x Blocking) || any_in width u (held_in x Bypassable) ≡ any_within width u (waiting (without x Blocking))
  unfolding any_in held_in behind_in without
  without_blocking = sym (any_append width u (behind_in x Blocking) (held_in x Bypassable))

  without_bypassable : any_in width u (behind_in x Bypassable) || any_in width u (held_in x Blocking) ≡ any_within width u (waiting (without x Bypassable))
  unfolding any_in held_in behind_in without
  without_bypassable =
      or_turned (any_in width u (behind_in x Bypassable)) (any_in width u (held_in x Blocking))
      ∙ sym (any_append width u (held_in x Blocking) (behind_in x Bypassable))

  near_beside : (q p : Queue) → Both q p → any_in width u (behind_in x q) || any_in width u (held_in x p) ≡ any_within width u (waiting (without x q))
  near_beside q p (inl e) = ap₂ (λ i j. any_in width u (behind_in x i) || any_in width u (held_in x j)) e.0 e.1 ∙ without_blocking ∙ ap (λ i. any_within width u (waiting (without x i))) (sym e.0)
  near_beside q p (inr e) = ap₂ (λ i j. any_in width u (behind_in x i) || any_in width u (held_in x j)) e.0 e.1 ∙ without_bypassable ∙ ap (λ i. any_within width u (waiting (without x i))) (sym e.0)

module _ (x : SideState) (q p : Queue) (width u : ℕ) (a b : Bool) (w : Both q p) where
  pub beside_first : a ≡ any_in width u (behind_in x q) → a ≡ true → a ≡ any_within width u (waiting (without x q))
  beside_first ea t = t ∙ ap (λ c. c || any_in width u (held_in x p)) (sym t ∙ ea) ∙ near_beside x width u q p w

  pub beside_second : a ≡ any_in width u (behind_in x q) → a ≡ false → b ≡ any_in width u (held_in x p) → b ≡ any_within width u (waiting (without x q))
  beside_second ea t eb = eb ∙ ap (λ c. c || any_in width u (held_in x p)) (sym t ∙ ea) ∙ near_beside x width u q p w

-- no packet waits in base or internal
pub beside_none : (x : SideState) (q : Queue) (width u : ℕ) (a : Bool) → (q ≡ Base) ⊎ (q ≡ Internal) → a ≡ any_within width u (waiting x) → a ≡ any_within width u (waiting (without x q))
unfolding without
beside_none x q width u a (inl e) ea = ea ∙ ap (λ p. any_within width u (waiting (without x p))) (sym e)
beside_none x q width u a (inr e) ea = ea ∙ ap (λ p. any_within width u (waiting (without x p))) (sym e)

-- base is the same without a packet that waits
pub without_base : (x : SideState) (q : Queue) → Packets q → (without x q).queues.base ≡ x.queues.base
unfolding without
without_base x q (inl e) = ap (λ p. (without x p).queues.base) e
without_base x q (inr e) = ap (λ p. (without x p).queues.base) e

-- ---- burst_tail

tail_append : (width u t : ℕ) (a b : List (Held Event)) → tail_over width u t (a ++ b) ≡ tail_over width u (tail_over width u t a) b
unfolding tail_over
tail_append width u t [] b = refl
tail_append width u t (x ∷ a) b = tail_append width u (if leb (x.value.moment - u) width then max t x.value.moment else t) a b

module _ (h rs : List ℕ) (z : Side) (j k n m : ℕ) (ej : j ≡ 2 + 5 * side_no z) (lj : j ≤ 10) (ek : k ≡ 3 + 5 * side_no z) (lk : k ≤ 10) (en : n ≡ count_of h j) (em : m ≡ count_of h k) (width u : ℕ) where
  waiting_long : length (waiting (side (state_from h rs) z)) ≡ n + m
  unfolding held_in
  waiting_long =
      length-append (held_in (side (state_from h rs) z) Blocking) (held_in (side (state_from h rs) z) Bypassable)
      ∙ ap₂ ◌+◌ (held_length h rs z Blocking j ej lj ∙ sym en) (held_length h rs z Bypassable k ek lk ∙ sym em)

  pub tail_few : n + m < 3 → u ≡ burst_tail_over width (side (state_from h rs) z) u
  unfolding burst_tail_over
  tail_few p = rw (waiting_long, le-ltb 2 (n + m) (omega arith))

  pub tail_found : (t r : ℕ) → 3 ≤ n + m → t ≡ tail_over width u u (held_in (side (state_from h rs) z) Blocking) → r ≡ tail_over width u t (held_in (side (state_from h rs) z) Bypassable)
      → r ≡ burst_tail_over width (side (state_from h rs) z) u
  unfolding burst_tail_over held_in
  tail_found t r p et er = rw (waiting_long, lt-ltb 2 (n + m) p) (er ∙ rw et (sym (tail_append width u u (held_in (side (state_from h rs) z) Blocking) (held_in (side (state_from h rs) z) Bypassable))))

-- ---- base_moment

module _ (h rs : List ℕ) (z : Side) (k : ℕ) (ek : k ≡ 1 + 5 * side_no z) (l : k ≤ 10) where
  pub base_none : (sum : ℕ) → count_of h k ≡ 0 → none ≡ base_moment sum (side (state_from h rs) z).queues.base
  unfolding held_in nodes
  base_none sum p =
      sym (ap (base_moment sum) (held_is h rs z Base k ek l) ∙ ap (λ x. base_moment sum (map (held_event z) (nodes rs x (head_of h k)))) p)

  -- the first record, f of the words rs'
  module _ (rs' : List ℕ) (f m : ℕ) (p : 0 < count_of h k) (ef : f ≡ head_of h k) (er : rs' ≡ rs) (em : m ≡ moment_of rs' f) where
    pub base_some : (sum r : ℕ) → r ≡ m + sum → some r ≡ base_moment sum (side (state_from h rs) z).queues.base
    unfolding held_in rec_at event_from
    base_some sum r e =
        rw (e, em, er, ef) (sym (ap (base_moment sum) (held_is h rs z Base k ek l ∙ ap (map (held_event z)) (nodes_next rs (count_of h k) (head_of h k) p))))

    base_moment_lem : Good h rs → m ≤ moment_limit
    unfolding Fit rec_at
    base_moment_lem g =
        rw (em, er, ef) ((rw (nodes_next rs (count_of h k) (head_of h k) p) at (g.chains k (omega arith)).fit).0.event (omega arith) (omega arith)).moments

    pub base_fits : (sum : ℕ) → Good h rs → sum ≤ moment_limit → m + sum < 2 ^ 64
    base_fits sum g s = omega (arith, base_moment_lem g)
