-- Laws of the window of stamps, and of the delay that a full one adds. Assumes nothing.
use Prim.Native.Nat.{ℕ, zero, suc, ◌+◌, ◌-◌, ◌*◌, ◌/◌, ◌^◌, ◌≤◌, ◌<◌}
use mathlib.Core.Path.{◌≡◌, refl, sym, ap, ◌∙◌}
use mathlib.Core.Bool.{Bool, true, false, not, cond}
use mathlib.Core.List.{List, [], ◌∷◌, map}
use mathlib.Core.Option.{Option as RulesOption, none, some}
use native.Mathlib.Nat.{mul-le-mul, div-le_self}
use native.Mathlib.Omega.{arith}
use lib.Dec.{ltb}
use lib.ListN.{length, take}
use borrow.Author.Tests.{lt-ltb, ne_eqb}
use Rattle.std.specs.Prelude.{if◌then◌else◌, nat_eq, Option, Some}
use Rattle.std.specs.Bool.{then_some}
use Rattle.std.specs.Option.{option_or}
use Rattle.std.specs.List.{prefix_len}
use Rattle.std.proofs.lemmas.Iterator.{YieldsList}
use Rattle.std.proofs.lemmas.Iterator.Consumers.{YieldsList-from_shown}
use Rattle.rules.specs.Basics.{Side, client, server}
use Rattle.rules.specs.State.{Held, side}
use Rattle.rules.specs.Limits.{duration_limit}
use Rattle.rules.specs.NetworkStep.{stamps_kept, extra_over, rate_of}
use Rattle.moment.specs.declared.Length.{Length}
use Rattle.queue_event.specs.Chain.{Node}
use Rattle.queue_event.specs.Frame.{node}
use Rattle.queue_event.specs.Walks.{left, Walked}
use Rattle.queue_event.specs.declared.chain.Linked.{Linked}
use Rattle.layout.specs.Records.{head_of, count_of, chain_at}
use Rattle.layout.specs.Accepted.{Good}
use Rattle.layout.specs.Layout.{state_from, chains, held_stamp, unless_zero}
use Rattle.layout.specs.Changes.{side_no}
use Rattle.queue.specs.Stamps.{stale_count}
use Rattle.layout.proofs.Banks.{chains_at}
use Rattle.layout.proofs.Counts.{length_map, length_nodes}
use Rattle.network.specs.Stamps.{limit_of, Above, RatedAs, evicted_count, FilledAs}

-- ---- rate_of

not_zero : (n : ℕ) → not (nat_eq (suc n) 0) ≡ true
not_zero n = ap not (ne_eqb (suc n) 0 (λ e. omega arith))

rate_is : (n q : ℕ) → RatedAs (option_or (then_some (not (nat_eq n 0)) n) (then_some (not (nat_eq q 0)) q)) (rate_of (unless_zero n) (unless_zero q))
unfolding Above
rate_is zero zero = record { is = refl; above = tt }
rate_is zero (suc q) = rw (not_zero q) (record { is = refl; above = omega arith })
rate_is (suc n) q = rw (not_zero n) (record { is = refl; above = omega arith })

pub rated : (n q : ℕ) (a b r : Option ℕ) → a ≡ then_some (not (nat_eq n 0)) n → b ≡ then_some (not (nat_eq q 0)) q → r ≡ option_or a b → RatedAs r (rate_of (unless_zero n) (unless_zero q))
rated n q a b r ea eb er = rw (er, ea, eb) (rate_is n q)

-- ---- extra

pub above_at : (r : Option ℕ) (p : ℕ) → r ≡ Some p → Above (limit_of r) → 0 < p
unfolding Above
above_at r p e a = rw e at a

product_small : (w p y : ℕ) → w ≤ duration_limit → y ≤ 65536 → (w / p) * y ≤ 65_536_000_000_000_000
product_small w p y lw ly =
    let a : w / p ≤ 1_000_000_000_000 = omega (arith, div-le_self w p) in
    mul-le-mul a ly

-- what it adds where the count is above the limit p
pub extra_over_lem : (w c : ℕ) (r : Option ℕ) (p x y : ℕ) → r ≡ Some p → p < c → x ≡ w / p → y ≡ x * (c - p) → y ≡ extra_over w c (limit_of r)
extra_over_lem w c r p x y e l ex ey =
    ey ∙ ap (λ v. v * (c - p)) ex ∙ sym (ap (λ v. extra_over w c (limit_of v)) e ∙ ap (λ t. if t then (w / p) * (c - p) else 0) (lt-ltb p c l))

-- what it adds is small
pub extra_small : (w c : ℕ) (o : RulesOption ℕ) → w ≤ duration_limit → c ≤ 65536 → extra_over w c o ≤ 65_536_000_000_000_000
extra_small w c none lw lc = omega arith
extra_small w c (some p) lw lc = go (ltb p c)
  where
    go : (t : Bool) → (if t then (w / p) * (c - p) else 0) ≤ 65_536_000_000_000_000
    go true = product_small w p (c - p) lw (omega arith)
    go false = omega arith

-- ---- the stamps that go

pub evict_le : (w now : ℕ) (l : List (Held ℕ)) → length (stamps_kept w now l) ≤ length l
evict_le w now [] = omega arith
evict_le w now (t ∷ l) = go (ltb w (now - t.value)) (evict_le w now l)
  where
    go : (b : Bool) → length (stamps_kept w now l) ≤ length l → length (if b then stamps_kept w now l else t ∷ l) ≤ suc (length l)
    go true e = omega arith
    go false e = omega arith

pub stale_count_lem : (w now : ℕ) (l : List (Held ℕ)) → stale_count w now l ≡ evicted_count w now l
stale_count_lem w now [] = refl
stale_count_lem w now (t ∷ l) = go (ltb w (now - t.value)) (stale_count_lem w now l) (evict_le w now l)
  where
    go : (b : Bool) → stale_count w now l ≡ evicted_count w now l → length (stamps_kept w now l) ≤ length l → (if b then suc (stale_count w now l) else 0) ≡ suc (length l) - length (if b then stamps_kept w now l else t ∷ l)
    go true e f = omega arith
    go false e f = omega arith

-- ---- the stamps of a side, as they stand in the words

stamps_built : (h rs : List ℕ) (z : Side) → (side (state_from h rs) z).stamps ≡ map held_stamp (chains h rs (5 + 5 * side_no z))
unfolding state_from
stamps_built h rs client = refl
stamps_built h rs server = refl

module _ (h rs : List ℕ) (z : Side) (k : ℕ) (ek : k ≡ 5 + 5 * side_no z) (lk : k ≤ 10) where
  stamps_are : (side (state_from h rs) z).stamps ≡ map held_stamp (chain_at h rs k)
  stamps_are = stamps_built h rs z ∙ ap (λ j. map held_stamp (chains h rs j)) (sym ek) ∙ ap (map held_stamp) (chains_at h rs k (omega arith))

  pub stamps_long : length (side (state_from h rs) z).stamps ≡ count_of h k
  stamps_long = ap length stamps_are ∙ length_map held_stamp (chain_at h rs k) ∙ length_nodes rs (count_of h k) (head_of h k)

  stale_is : (xs : List Node) (w now gone : ℕ) → xs ≡ chain_at h rs k → gone ≡ stale_count w now (map held_stamp xs) → gone ≡ evicted_count w now (side (state_from h rs) z).stamps
  stale_is xs w now gone e eg = eg ∙ ap (λ x. stale_count w now (map held_stamp x)) e ∙ ap (stale_count w now) (sym stamps_are) ∙ stale_count_lem w now (side (state_from h rs) z).stamps

-- ---- the walk

-- whether a record is too old to stay
abbrev pub too_old : ℕ → ℕ → Node → Bool
too_old w now x = ltb w (now - x.rec.moment)

pub walked : (s : Linked) → YieldsList Walked (λ r. node r.records.now r.at) s (left s)
walked s = YieldsList-from_shown Walked (λ r. node r.records.now r.at) left (λ t u h. ap length h.0) (λ t x u h. h.0 ∙ ap (λ rs. node rs x.at ∷ left u) (sym h.1)) s

pub walk_fits : (h rs : List ℕ) (k : ℕ) (s t : Linked) → Good h rs → k ≤ 10 → left s ≡ chain_at h rs k → t ≡ s → length rs < 2 ^ 64 → 0 + length (left t) < 2 ^ 64
walk_fits h rs k s t g lk e et l =
    let small : count_of h k ≤ length rs / 4 = (g.chains k (omega arith)).count in
    let n : length (left t) ≡ count_of h k = ap (λ (x : Linked). length (left x)) et ∙ ap length e ∙ length_nodes rs (count_of h k) (head_of h k) in
    omega (arith, n, small, l)

gone_is : (w now : ℕ) (l : List Node) → length (take (prefix_len (too_old w now) l) l) ≡ stale_count w now (map held_stamp l)
gone_is w now [] = refl
gone_is w now (x ∷ l) = go (too_old w now x) (gone_is w now l)
  where
    go : (b : Bool) → length (take (prefix_len (too_old w now) l) l) ≡ stale_count w now (map held_stamp l)
        → length (take (cond b (1 + prefix_len (too_old w now) l) 0) (x ∷ l)) ≡ (if b then suc (stale_count w now (map held_stamp l)) else 0)
    go true e = let one : 1 + prefix_len (too_old w now) l ≡ suc (prefix_len (too_old w now) l) = omega arith in ap (λ n. length (take n (x ∷ l))) one ∙ ap (λ n. suc n) e
    go false e = refl

-- the walk over the stamps of a side ends at the first that is not
pub gone_all : (h rs : List ℕ) (z : Side) (k : ℕ) → k ≡ 5 + 5 * side_no z → k ≤ 10 → (xs : List Node) (w now n : ℕ) → xs ≡ chain_at h rs k
    → n ≡ length (take (prefix_len (too_old w now) xs) xs) → n ≡ evicted_count w now (side (state_from h rs) z).stamps
gone_all h rs z k ek lk xs w now n e en = stale_is h rs z k ek lk xs w now n e (en ∙ gone_is w now xs)

-- ---- fill

module _ (h rs : List ℕ) (z : Side) (k n w now gone : ℕ) (g : Good h rs) (ek : k ≡ 5 + 5 * side_no z) (lk : k ≤ 10) (en : n ≡ count_of h k) (eg : gone ≡ evicted_count w now (side (state_from h rs) z).stamps) where
  left_is : n - gone ≡ length (stamps_kept w now (side (state_from h rs) z).stamps)
  left_is = omega (arith, evict_le w now (side (state_from h rs) z).stamps, stamps_long h rs z k ek lk, en)

  pub gone_le : gone ≤ n
  gone_le = omega (arith, stamps_long h rs z k ek lk, en)

  pub left_le : length rs ≤ 262140 → n - gone + 1 ≤ 65536
  left_le l = omega (arith, (g.chains k (omega arith)).count)

  pub filled : (o : RulesOption ℕ) (x : Length) → length rs ≤ 262140 → w ≤ duration_limit → x.0 ≡ extra_over w (n - gone + 1) o → FilledAs (record { stale = gone; extra = x }) w now o (side (state_from h rs) z).stamps
  filled o x l lw ex = record {
    stale = eg;
    extra = ex ∙ ap (λ c. extra_over w (c + 1) o) left_is;
    small = let e = extra_small w (n - gone + 1) o lw (left_le l) in omega (arith, ex, e);
  }
