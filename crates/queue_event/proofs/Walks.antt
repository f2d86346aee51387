-- Laws of what a walk along a chain gives while its records pass a test. Assumes nothing.
use Prim.Native.Nat.{ℕ, suc, ◌+◌, ◌-◌, max}
use native.Mathlib.Omega.{arith}
use mathlib.Core.Path.{◌≡◌, refl, sym, ap, ◌∙◌}
use mathlib.Core.Bool.{Bool, true, false, cond}
use mathlib.Core.List.{List, [], ◌∷◌, map}
use lib.Dec.{leb}
use lib.ListN.{length, take}
use Rattle.std.specs.Prelude.{Option, Some, IfSome}
use Rattle.std.specs.List.{prefix_len, last_or, fold}
use Rattle.std.proofs.lemmas.Iterator.{YieldsList}
use Rattle.std.proofs.lemmas.Iterator.Consumers.{YieldsList-from_shown}
use Rattle.moment.specs.declared.Moment.{Moment}
use Rattle.queue_event.specs.Chain.{pick, Node, recs}
use Rattle.queue_event.specs.Frame.{node}
use Rattle.queue_event.specs.Order.{Sorted, keeps, spot}
use Rattle.queue_event.specs.Folds.{later, latest_of}
use Rattle.queue_event.specs.Walks.{left, Walked, number_or, Finds}
use Rattle.queue_event.specs.declared.chain.Linked.{Linked}
use Rattle.queue_event.specs.declared.read.Record.{Record}
use Rattle.queue_event.proofs.Folds.{past_latest}

abbrev head : {A : Type 0} → A → List A → A
head d [] = d
head d (y ∷ ys) = y

abbrev tail : {A : Type 0} → List A → List A
tail [] = []
tail (y ∷ ys) = ys

-- ---- what is seen of each record: itself, and the words that it is of

abbrev pub seen : Record → Node × List ℕ
seen r = (node r.records.now r.at, r.records.now)

abbrev pub of_words : List ℕ → List Node → List (Node × List ℕ)
of_words rs l = map (λ y. (y, rs)) l

pub walked : (s : Linked) → YieldsList Walked seen s (of_words s.records.now (left s))
walked s =
    YieldsList-from_shown Walked seen (λ t. of_words t.records.now (left t)) (λ t u h. ap (λ l. length (of_words t.records.now l)) h.0)
    (λ t x u h. ap (of_words t.records.now) h.0 ∙ ap (λ rs. (node rs x.at, rs) ∷ of_words t.records.now (left u)) (sym h.1) ∙ ap (λ rs. seen x ∷ of_words rs (left u)) (sym h.2)) s

one_more : (n : ℕ) → 1 + n ≡ suc n
one_more n = omega arith

-- ---- the last that stays before a new record of moment m and tag t

module _ (rs : List ℕ) (m t : ℕ) where
  abbrev pub before : Node × List ℕ → Bool
  before y = keeps m t y.0

  abbrev front : List Node → List (Node × List ℕ)
  front l = take (prefix_len before (of_words rs l)) (of_words rs l)

  abbrev Last : List Node → Type 0
  Last l = (xs : List Record) (o : Option Record) → IfSome o (λ x. x.records.now ≡ rs) → map seen xs ≡ front l → Finds rs (spot l (number_or 0 o) m t) (last_or o xs)

  last_turn : (b : Bool) (y : Node) (l : List Node) → Last l → (xs : List Record) (o : Option Record) → IfSome o (λ x. x.records.now ≡ rs)
      → map seen xs ≡ take (cond b (1 + prefix_len before (of_words rs l)) 0) ((y, rs) ∷ of_words rs l) → Finds rs (pick b (spot l y.at m t) (number_or 0 o)) (last_or o xs)
  last_turn false y l on [] o f e = record { number = refl; of = f }
  last_turn false y l on (x ∷ xs) o f e = absurd (omega (arith, ap length e))
  last_turn true y l on xs o f e = go xs (e ∙ ap (λ k. take k ((y, rs) ∷ of_words rs l)) (one_more (prefix_len before (of_words rs l))))
    where
      go : (xs : List Record) → map seen xs ≡ (y, rs) ∷ front l → Finds rs (spot l y.at m t) (last_or o xs)
      go [] e = absurd (omega (arith, ap length e))
      go (x ∷ xs) e =
          let h : seen x ≡ (y, rs) = ap (head (y, rs)) e in
          let n = on xs (Some x) (ap (λ p. p.1) h) (ap tail e) in
          record { number = n.number ∙ ap (λ p. spot l p.0.at m t) h; of = n.of }

  pub last_before : (l : List Node) → Last l
  unfolding spot
  last_before [] [] o f e = record { number = refl; of = f }
  last_before [] (x ∷ xs) o f e = absurd (omega (arith, ap length e))
  last_before (y ∷ l) xs o f e = last_turn (keeps m t y) y l (last_before l) xs o f e

-- ---- the latest within a window of time

module _ (rs : List ℕ) (from window : ℕ) where
  abbrev pub reached : Node × List ℕ → Bool
  reached y = leb (y.0.rec.moment - from) window

  abbrev pub longer : Moment → Node × List ℕ → Moment
  longer a y = record { 0 = max a.0 y.0.rec.moment }

  abbrev Latest : List Node → Type 0
  Latest l = Sorted l → (a : Moment) → (fold longer a (take (prefix_len reached (of_words rs l)) (of_words rs l))).0 ≡ latest_of from window a.0 (recs l)

  latest_turn : (b : Bool) (y : Node) (l : List Node) → Latest l → leb (y.rec.moment - from) window ≡ b → Sorted (y ∷ l) → (a : Moment)
      → (fold longer a (take (cond b (1 + prefix_len reached (of_words rs l)) 0) ((y, rs) ∷ of_words rs l))).0 ≡ latest_of from window (pick b (max a.0 y.rec.moment) a.0) (recs l)
  unfolding latest_of later Sorted
  latest_turn false y l on p s a = sym (past_latest from window a.0 y l s p) ∙ ap (λ b. latest_of from window (pick b (max a.0 y.rec.moment) a.0) (recs l)) p
  latest_turn true y l on p s a = ap (λ k. (fold longer a (take k ((y, rs) ∷ of_words rs l))).0) (one_more (prefix_len reached (of_words rs l))) ∙ on s.1 (longer a (y, rs))

  pub latest_reached : (l : List Node) → Latest l
  unfolding latest_of later
  latest_reached [] s a = refl
  latest_reached (y ∷ l) s a = latest_turn (leb (y.rec.moment - from) window) y l (latest_reached l) refl s a
