-- Lists of numbers without one twice: at most m of them are below m. Assumes nothing.
use Prim.Native.Nat.{ℕ, zero, suc, ◌<◌, ◌≤◌}
use mathlib.Core.Bool.{Bool, true, false}
use mathlib.Core.List.{List, [], ◌∷◌, ◌++◌}
use mathlib.Core.Logic.{◌⊎◌, inl, inr}
use mathlib.Core.Path.{◌≡◌, refl, sym, ap, subst, ◌∙◌}
use native.Mathlib.Decide.{ℕ_discrete}
use native.Mathlib.Omega.{arith}
use lib.Dec.{eqb}
use lib.ListN.{length}
use borrow.Author.Tests.{eq-eqb, ne_eqb}
use Rattle.std.specs.Prelude.{if◌then◌else◌}
use Rattle.layout.specs.Places.{Distinct, Has}

-- ---- lists without an element twice

pub has? : (r : ℕ) (l : List ℕ) → Dec (Has r l)
unfolding Has
has? r [] = no (λ x. x)
has? r (x ∷ l) = go (ℕ_discrete x r) (has? r l)
  where
    go : Dec (x ≡ r) → Dec (Has r l) → Dec ((x ≡ r) ⊎ Has r l)
    go (yes e) d = yes (inl e)
    go (no n) (yes y) = yes (inr y)
    go (no n) (no m) = no (λ z. either z)
      where
        either : (x ≡ r) ⊎ Has r l → ⊥
        either (inl e) = n e
        either (inr y) = m y

abbrev without : ℕ → List ℕ → List ℕ
without n [] = []
without n (x ∷ l) = if eqb x n then without n l else x ∷ without n l

has_without : (n r : ℕ) (l : List ℕ) → Has r (without n l) → Has r l × (r ≡ n → ⊥)
unfolding Has
has_without n r [] y = absurd y
has_without n r (x ∷ l) y₀ = go (ℕ_discrete x n) (has_without n r l) y₀
  where
    go : Dec (x ≡ n) → (Has r (without n l) → Has r l × (r ≡ n → ⊥)) → Has r (if eqb x n then without n l else x ∷ without n l) → ((x ≡ r) ⊎ Has r l) × (r ≡ n → ⊥)
    go (yes e) ih y = let z = ih (subst (λ b. Has r (if b then without n l else x ∷ without n l)) (eq-eqb x n e) y) in (inr z.0, z.1)
    go (no d) ih y = on (subst (λ b. Has r (if b then without n l else x ∷ without n l)) (ne_eqb x n d) y)
      where
        on : (x ≡ r) ⊎ Has r (without n l) → ((x ≡ r) ⊎ Has r l) × (r ≡ n → ⊥)
        on (inl e) = (inl e, λ q. d (e ∙ q))
        on (inr z) = (inr (ih z).0, (ih z).1)

distinct_without : (n : ℕ) (l : List ℕ) → Distinct l → Distinct (without n l)
unfolding Distinct
distinct_without n [] d = tt
distinct_without n (x ∷ l) d = go (eqb x n) (distinct_without n l d.1)
  where
    go : (b : Bool) → Distinct (without n l) → Distinct (if b then without n l else x ∷ without n l)
    go true ih = ih
    go false ih = (λ y. d.0 (has_without n x l y).0, ih)

length_off : (n : ℕ) (l : List ℕ) → (Has n l → ⊥) → length (without n l) ≡ length l
unfolding Has
length_off n [] d = refl
length_off n (x ∷ l) d = ap (λ b. length (if b then without n l else x ∷ without n l)) (ne_eqb x n (λ e. d (inl e))) ∙ ap suc (length_off n l (λ y. d (inr y)))

length_without : (n : ℕ) (l : List ℕ) → Distinct l → length l ≤ suc (length (without n l))
unfolding Distinct
length_without n [] d = omega arith
length_without n (x ∷ l) d = go (ℕ_discrete x n) (length_without n l d.1)
  where
    go : Dec (x ≡ n) → length l ≤ suc (length (without n l)) → suc (length l) ≤ suc (length (if eqb x n then without n l else x ∷ without n l))
    go (yes e) ih = subst (λ b. suc (length l) ≤ suc (length (if b then without n l else x ∷ without n l))) (sym (eq-eqb x n e)) (omega (arith, length_off n l (λ y. d.0 (subst (λ z. Has z l) (sym e) y))))
    go (no q) ih = subst (λ b. suc (length l) ≤ suc (length (if b then without n l else x ∷ without n l))) (sym (ne_eqb x n q)) (omega arith)

pub pigeon : (m : ℕ) (l : List ℕ) → Distinct l → ((r : ℕ) → Has r l → r < m) → length l ≤ m
unfolding Has
pigeon zero [] d f = omega arith
pigeon zero (x ∷ l) d f = absurd (let z = f x (inl refl) in omega arith)
pigeon (suc m) l d f =
    omega (arith, length_without m l d, pigeon m (without m l) (distinct_without m l d) (λ r y. let z = has_without m r l y in let q = f r z.0 in lower r m q z.1))
  where
    lower : (r m : ℕ) → r < suc m → (r ≡ m → ⊥) → r < m
    lower r m a b = omega arith

pub has_append : (r : ℕ) (a b : List ℕ) → Has r (a ++ b) → Has r a ⊎ Has r b
unfolding Has
has_append r [] b y = inr y
has_append r (x ∷ a) b (inl e) = inl (inl e)
has_append r (x ∷ a) b (inr y) = go (has_append r a b y)
  where
    go : Has r a ⊎ Has r b → ((x ≡ r) ⊎ Has r a) ⊎ Has r b
    go (inl z) = inl (inr z)
    go (inr z) = inr z

pub distinct_append : (a b : List ℕ) → Distinct a → Distinct b → ((r : ℕ) → Has r a → Has r b → ⊥) → Distinct (a ++ b)
unfolding Has Distinct
distinct_append [] b da db f = db
distinct_append (x ∷ a) b da db f = (λ y. go (has_append x a b y), distinct_append a b da.1 db (λ r y z. f r (inr y) z))
  where
    go : Has x a ⊎ Has x b → ⊥
    go (inl y) = da.0 y
    go (inr y) = f x (inl refl) y
