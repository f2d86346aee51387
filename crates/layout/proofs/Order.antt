-- The order of the words is the rules' order, and an insertion keeps a chain fit and in order. Assumes nothing.
use Prim.Native.Nat.{ℕ, zero, suc, ◌≤◌, ◌<◌, ◌%◌}
use mathlib.Core.Path.{◌≡◌, refl, sym, ap, ◌∙◌}
use mathlib.Core.Bool.{Bool, true, false, not, ◌&&◌, ◌||◌}
use mathlib.Core.List.{List, [], ◌∷◌, map}
use native.Mathlib.Omega.{arith}
use lib.Dec.{ltb, eqb}
use borrow.Author.Tests.{ltb-true, ltb-false, eqb-true, eqb-false, not-true, not-false}
use Rattle.std.specs.Prelude.{if◌then◌else◌}
use Rattle.rules.specs.Basics.{before, Side, has_machine, rank}
use Rattle.rules.specs.Queueing.{chain_for, insert}
use Rattle.rules.specs.State.{base, blocking, bypassable, internal}
use Rattle.queue_event.specs.Chain.{pick, rank_of, Node}
use Rattle.queue_event.specs.Order.{stays, insert_sorted}
use Rattle.queue_event.specs.Tag.{kind_field}
use Rattle.event.specs.Values.{kind_at}
use Rattle.event.proofs.Numbers.{by_kind}
use Rattle.layout.specs.Records.{RecordOk, Follows, Fit, Ordered}
use Rattle.layout.specs.Layout.{event_from, held_event}

-- ---- the kind of a number has that number

pub rank_kind : (n : ℕ) → n < 10 → rank (kind_at n) ≡ n
rank_kind zero l = refl
rank_kind (suc zero) l = refl
rank_kind (suc (suc zero)) l = refl
rank_kind (suc (suc (suc zero))) l = refl
rank_kind (suc (suc (suc (suc zero)))) l = refl
rank_kind (suc (suc (suc (suc (suc zero))))) l = refl
rank_kind (suc (suc (suc (suc (suc (suc zero)))))) l = refl
rank_kind (suc (suc (suc (suc (suc (suc (suc zero))))))) l = refl
rank_kind (suc (suc (suc (suc (suc (suc (suc (suc zero)))))))) l = refl
rank_kind (suc (suc (suc (suc (suc (suc (suc (suc (suc zero))))))))) l = refl
rank_kind (suc (suc (suc (suc (suc (suc (suc (suc (suc (suc n)))))))))) l = absurd (omega arith)

-- what the rules say kind by kind, by the kind's number: whether it has a machine, and its chain
pub machine_kind : (n : ℕ) → n < 10 → has_machine (kind_at n) ≡ (eqb n 2 || eqb n 6 || ltb 7 n)
machine_kind = by_kind (λ n. has_machine (kind_at n) ≡ (eqb n 2 || eqb n 6 || ltb 7 n)) refl refl refl refl refl refl refl refl refl refl

pub chain_kind : (f : Bool) (n : ℕ) → n < 10 → chain_for (kind_at n) f ≡ (if eqb n 0 then if f then bypassable else blocking else if eqb n 1 then base else internal)
chain_kind f =
    by_kind
    (λ n. chain_for (kind_at n) f ≡ (if eqb n 0 then if f then bypassable else blocking else if eqb n 1 then base else internal))
    refl
    refl
    refl
    refl
    refl
    refl
    refl
    refl
    refl
    refl

-- ---- what stays before a new record is what the new one does not go before

pub stays_is : (a s b t : ℕ) → stays a s b t ≡ not (before b (rank_of t) a (rank_of s))
unfolding stays
stays_is a s b t = refl

-- every record of the list has a rank that is a kind's
unfoldable pub Ranked : List Node → Type 0
Ranked [] = Unit {0}
Ranked (x ∷ l) = (rank_of x.rec.tag < 10) × Ranked l

pub fit_ranked : (k c : ℕ) (l : List Node) → 0 < k % 5 → k < 11 → Fit k c l → Ranked l
unfolding Fit Ranked
fit_ranked k c [] a b f = tt
fit_ranked k c (x ∷ l) a b f = (let z = (f.0.shape.event a b).kind.kinds in omega arith, fit_ranked k c l a b f.1)

-- an event among the records is an event among the rules' events
pub insert_map : (z : Side) (x : Node) (l : List Node) → rank_of x.rec.tag < 10 → Ranked l → map (held_event z) (insert_sorted x l) ≡ insert (held_event z x) (map (held_event z) l)
unfolding insert_sorted Ranked event_from
insert_map z x [] r s = refl
insert_map z x (y ∷ l) r s =
    rw (stays_is y.rec.moment y.rec.tag x.rec.moment x.rec.tag, rank_kind (rank_of x.rec.tag) r, rank_kind (rank_of y.rec.tag) s.0)
    (go (before x.rec.moment (rank_of x.rec.tag) y.rec.moment (rank_of y.rec.tag)) (insert_map z x l r s.1))
  where
    go : (b : Bool) → map (held_event z) (insert_sorted x l) ≡ insert (held_event z x) (map (held_event z) l)
        → map (held_event z) (pick (not b) (y ∷ insert_sorted x l) (x ∷ y ∷ l)) ≡ (if b then held_event z x ∷ held_event z y ∷ map (held_event z) l else held_event z y ∷ insert (held_event z x) (map (held_event z) l))
    go true e = refl
    go false e = ap (λ l. held_event z y ∷ l) e

-- ---- an insertion keeps a chain fit and in order

before_true : (a r b s : ℕ) → before a r b s ≡ true → (a ≤ b) × (a ≡ b → r ≤ s)
before_true a r b s = go (ltb a b) refl (eqb a b) refl (ltb r s) refl
  where
    go : (x : Bool) → ltb a b ≡ x → (y : Bool) → eqb a b ≡ y → (z : Bool) → ltb r s ≡ z → (x || y && z) ≡ true → (a ≤ b) × (a ≡ b → r ≤ s)
    go true p y q z u e = (omega (arith, ltb-true a b p), λ i. absurd (omega (arith, ltb-true a b p)))
    go false p true q true u e = (omega (arith, eqb-true a b q), λ i. omega (arith, ltb-true r s u))
    go false p true q false u e = absurd (let w : ◌≡◌ {A = ℕ} 0 1 = cc in omega arith)
    go false p false q z u e = absurd (let w : ◌≡◌ {A = ℕ} 0 1 = cc in omega arith)

before_false : (a r b s : ℕ) → before a r b s ≡ false → (b ≤ a) × (b ≡ a → s ≤ r)
before_false a r b s = go (ltb a b) refl (eqb a b) refl (ltb r s) refl
  where
    go : (x : Bool) → ltb a b ≡ x → (y : Bool) → eqb a b ≡ y → (z : Bool) → ltb r s ≡ z → (x || y && z) ≡ false → (b ≤ a) × (b ≡ a → s ≤ r)
    go true p y q z u e = absurd (let w : ◌≡◌ {A = ℕ} 0 1 = cc in omega arith)
    go false p true q true u e = absurd (let w : ◌≡◌ {A = ℕ} 0 1 = cc in omega arith)
    go false p true q false u e = (omega (arith, ltb-false a b p), λ i. ltb-false r s u)
    go false p false q z u e = (omega (arith, ltb-false a b p), λ i. absurd (eqb-false a b q (sym i)))

stays_true : (a s b t : ℕ) → stays a s b t ≡ true → (a ≤ b) × (a ≡ b → rank_of s ≤ rank_of t)
stays_true a s b t e = before_false b (rank_of t) a (rank_of s) (not-true _ (sym (stays_is a s b t) ∙ e))

stays_false : (a s b t : ℕ) → stays a s b t ≡ false → (b ≤ a) × (b ≡ a → rank_of t ≤ rank_of s)
stays_false a s b t e = before_true b (rank_of t) a (rank_of s) (not-false _ (sym (stays_is a s b t) ∙ e))

abbrev pub Fine : ℕ → ℕ → Node → Type 0
Fine k c x = RecordOk k c x.rec.moment x.rec.size x.rec.tag

abbrev After : ℕ → ℕ → ℕ → Node → Type 0
After k m r x = Follows k m r x.rec.moment (kind_field x.rec.tag)

-- ---- the tail of a chain; free records have no order

order_from : (k m r : ℕ) (l : List Node) → Ordered k m r l → Ordered k 0 0 l
unfolding Ordered
order_from k m r [] o = tt
order_from k m r (x ∷ l) o = (record { moments = λ _. omega arith; ranks = λ _ _. omega arith }, o.1)

pub order_tail : (k : ℕ) (x : Node) (l : List Node) → Ordered k 0 0 (x ∷ l) → Ordered k 0 0 l
unfolding Ordered
order_tail k x l o = order_from k _ _ l o.1

pub free_order : (m r : ℕ) (l : List Node) → Ordered 0 m r l
unfolding Ordered
free_order m r [] = tt
free_order m r (x ∷ l) = (record { moments = λ z. absurd (omega arith); ranks = λ z. absurd (omega arith) }, free_order x.rec.moment (kind_field x.rec.tag) l)
