-- What holds of both branches of a choice between two values, and of tests joined by and, or.
use Rattle.std.specs.Prelude.{◌≡◌, refl, Bool, true, false, ◌&&◌, ◌||◌, if◌then◌else◌}
use Rattle.std.proofs.lemmas.Bool.{false≢true}
use Rattle.std.proofs.Common.{true≢false}

-- a property of both branches is one of the whole
pub by_if : {A : Type 0} (P : A → Type 0) (b : Bool) {a c : A} → P a → P c → P (if b then a else c)
by_if P true p q = p
by_if P false p q = q

-- the same, where each branch may use what the test said
pub by_test :
    {A : Type 0} (P : A → Type 0) (b : Bool) {a c : A} → (b ≡ true → P a) → (b ≡ false → P c) → P (if b then a else c)
by_test P true p q = p refl
by_test P false p q = q refl

-- both branches are a function of others, so the whole is
pub if_both :
    {A B : Type 0} (f : A → B) (b : Bool) {a c : A} {a' c' : B} → a' ≡ f a → c' ≡ f c → (if b then a' else c') ≡ f (if b then a else c)
if_both f true p q = p
if_both f false p q = q

-- the same of a function at two choices by one test
pub if_alike : {A B : Type 0} (f : A → B) (b : Bool) {a c a' c' : A} → f a ≡ f a' → f c ≡ f c' → f (if b then a else c) ≡ f (if b then a' else c')
if_alike f true p q = p
if_alike f false p q = q

-- both tests hold where their conjunction does; neither where their disjunction does not
pub both : (a b : Bool) → (a && b) ≡ true → (a ≡ true) × (b ≡ true)
both true b h = (refl, h)
both false b h = absurd (false≢true h)

pub neither_true : (a b : Bool) → (a || b) ≡ false → (a ≡ false) × (b ≡ false)
neither_true true b h = absurd (true≢false h)
neither_true false b h = (refl, h)

-- a test that cannot hold fails
pub never_true : (b : Bool) → (b ≡ true → ⊥) → b ≡ false
never_true true h = absurd (h refl)
never_true false h = refl
