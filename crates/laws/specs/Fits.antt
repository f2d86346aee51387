-- A property of every element of a list, and that sums that fit are each inside the limit.
use Rattle.std.specs.Prelude.{ℕ, ◌≤◌, ◌≡◌, true, leb}
use Rattle.std.proofs.Common.{subst, leb-true}
use Rattle.std.proofs.Math.Option.{some, none-ne-some, some-injective}
use mathlib.Core.List.{head?, List, [], ◌∷◌, ◌++◌, tail}
use Rattle.rules.specs.Limits.{moment_limit}
use Rattle.rules.specs.ChoiceRound.{fits}
use Rattle.laws.specs.Branches.{both}

-- P holds of every element
abbrev pub All : {A : Type 0} → (A → Type 0) → List A → Type 0
All P [] = Unit
All P (x ∷ l) = P x × All P l

-- of a joined list: of the one and of the other
pub all_append_left : {A : Type 0} (P : A → Type 0) (l m : List A) → All P (l ++ m) → All P l
all_append_left P [] m h = tt
all_append_left P (x ∷ l) m h = (h.0, all_append_left P l m h.1)

pub all_append_right : {A : Type 0} (P : A → Type 0) (l m : List A) → All P (l ++ m) → All P m
all_append_right P [] m h = h
all_append_right P (x ∷ l) m h = all_append_right P l m h.1

-- of the first element
pub all_head : {A : Type 0} (P : A → Type 0) (l : List A) {a : A} → All P l → head? l ≡ some a → P a
all_head P [] {a} h e = absurd (none-ne-some a e)
all_head P (x ∷ l) {a} h e = subst P (some-injective x a e) h.0

-- of the others
pub all_tail : {A : Type 0} (P : A → Type 0) (l : List A) → All P l → All P (tail l)
all_tail P [] h = tt
all_tail P (x ∷ l) h = h.1

-- sums that fit are each at most the limit
pub fits_all : (l : List ℕ) → fits l ≡ true → All (λ (n : ℕ). n ≤ moment_limit) l
unfolding fits
fits_all [] h = tt
fits_all (n ∷ l) h =
    let g : (leb n moment_limit ≡ true) × (fits l ≡ true) = both (leb n moment_limit) (fits l) h in
    (leb-true n moment_limit g.0, fits_all l g.1)
