-- No number but those from 1 to R stands in the chains or among the free records of an accepted state.
use Rattle.std.specs.Prelude.{ℕ, zero, suc, ◌+◌, ◌≤◌, ◌<◌, ◌≡◌, refl, ◌⊎◌, List, [], ◌∷◌, eqb}
use Rattle.std.proofs.Common.{ap, inl, inr, arith, eqb-true, ne_eqb}
use Rattle.rules.specs.State.{Held, Queues, SideState, State}
use Rattle.laws.specs.Accepted.{Accepted, only, times}
use Rattle.laws.specs.Branches.{by_test}
use Rattle.laws.specs.Records.{weigh, weigh_ones, weigh_free, weigh_list, weigh_side}

-- ---- two weights added, and one weight below another

add_list : {A : Type 0} (v w : ℕ → ℕ) (l : List (Held A)) → weigh_list (λ (p : ℕ). v p + w p) l ≡ weigh_list v l + weigh_list w l
add_list v w [] = refl
add_list v w (x ∷ l) = omega (arith, add_list v w l)

add_free : (v w : ℕ → ℕ) (l : List ℕ) → weigh_free (λ (p : ℕ). v p + w p) l ≡ weigh_free v l + weigh_free w l
add_free v w [] = refl
add_free v w (p ∷ l) = omega (arith, add_free v w l)

add_side : (v w : ℕ → ℕ) (x : SideState) → weigh_side (λ (p : ℕ). v p + w p) x ≡ weigh_side v x + weigh_side w x
add_side v w x =
    let q : Queues = x.queues in
    omega (arith, add_list v w q.base, add_list v w q.blocking, add_list v w q.bypassable, add_list v w q.internal, add_list v w x.stamps)

weigh_sum : (v w : ℕ → ℕ) (s : State) → weigh (λ (p : ℕ). v p + w p) s ≡ weigh v s + weigh w s
unfolding weigh
weigh_sum v w s = omega (arith, add_side v w s.client, add_side v w s.server, add_list v w s.aggregates, add_free v w s.free)

le_list : {A : Type 0} (v w : ℕ → ℕ) → ((p : ℕ) → v p ≤ w p) → (l : List (Held A)) → weigh_list v l ≤ weigh_list w l
le_list v w h [] = omega arith
le_list v w h (x ∷ l) = omega (arith, h x.place, le_list v w h l)

le_free : (v w : ℕ → ℕ) → ((p : ℕ) → v p ≤ w p) → (l : List ℕ) → weigh_free v l ≤ weigh_free w l
le_free v w h [] = omega arith
le_free v w h (p ∷ l) = omega (arith, h p, le_free v w h l)

le_side : (v w : ℕ → ℕ) → ((p : ℕ) → v p ≤ w p) → (x : SideState) → weigh_side v x ≤ weigh_side w x
le_side v w h x =
    let q : Queues = x.queues in
    omega (arith, le_list v w h q.base, le_list v w h q.blocking, le_list v w h q.bypassable, le_list v w h q.internal, le_list v w h x.stamps)

weigh_le : (v w : ℕ → ℕ) → ((p : ℕ) → v p ≤ w p) → (s : State) → weigh v s ≤ weigh w s
unfolding weigh
weigh_le v w h s = omega (arith, le_side v w h s.client, le_side v w h s.server, le_list v w h s.aggregates, le_free v w h s.free)

-- ---- the weight 1 for each number from 1 to n

abbrev up_to : ℕ → ℕ → ℕ
up_to zero p = 0
up_to (suc n) p = up_to n p + only (suc n) p

not_it : (r p : ℕ) → (p ≡ r → ⊥) → only r p ≡ 0
not_it r p h = rw (ne_eqb p r h)

up_over : (n p : ℕ) → n < p → up_to n p ≡ 0
up_over zero p h = refl
up_over (suc n) p h = omega (arith, up_over n p (omega arith), not_it (suc n) p (λ (e : p ≡ suc n). omega arith))

up_zero : (n : ℕ) → up_to n 0 ≡ 0
up_zero zero = refl
up_zero (suc n) = omega (arith, up_zero n, not_it (suc n) 0 (λ (e : 0 ≡ suc n). omega arith))

up_one : (n p : ℕ) → up_to n p ≤ 1
up_one zero p = omega arith
up_one (suc n) p =
    by_test
    (λ (k : ℕ). up_to n p + k ≤ 1)
    (eqb p (suc n))
    (λ e. omega (arith, up_over n p (omega (arith, eqb-true p (suc n) e))))
    (λ e. omega (arith, up_one n p))

-- with one for a number outside it is still at most 1
outside_one : (n r p : ℕ) → (r ≡ 0) ⊎ (n < r) → only r p + up_to n p ≤ 1
outside_one n r p h =
    by_test
    (λ (k : ℕ). k + up_to n p ≤ 1)
    (eqb p r)
    (λ e. go (eqb-true p r e) h)
    (λ e. omega (arith, up_one n p))
  where
    go : p ≡ r → (r ≡ 0) ⊎ (n < r) → 1 + up_to n p ≤ 1
    go e (inl g) = let z : p ≡ 0 = omega arith in omega (arith, ap (up_to n) z, up_zero n)
    go e (inr g) = omega (arith, up_over n p (omega arith))

up_count : (n : ℕ) (s : State) → ((r : ℕ) → 1 ≤ r → r ≤ n → times r s ≡ 1) → weigh (up_to n) s ≡ n
up_count zero s h = omega (arith, weigh_sum (λ (p : ℕ). 0) (λ (p : ℕ). 0) s)
up_count (suc n) s h = omega (arith, weigh_sum (up_to n) (only (suc n)) s, up_count n s (λ r a b. h r a (omega arith)), h (suc n) (omega arith) (omega arith))

-- the records from 1 to R are R in number, as many as stand there, so no other number does
pub no_other_record : (s : State) (r : ℕ) → Accepted s → (r ≡ 0) ⊎ (s.room < r) → times r s ≡ 0
no_other_record s r h g =
    omega (arith, weigh_le (λ (p : ℕ). only r p + up_to s.room p) (λ (p : ℕ). 1) (λ p. outside_one s.room r p g) s, weigh_sum (only r) (up_to s.room) s, up_count s.room s h.once, weigh_ones s, h.whole)
