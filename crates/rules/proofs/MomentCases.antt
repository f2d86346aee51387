-- Document 02, M-110: the cases of AggregateMoments "exclude each other, cover every input and give the moments that the subtraction gives". Assumes
-- nothing.
use Prim.Native.Nat.{◌*◌, ◌+◌, ◌-◌, ◌<◌, ◌≤◌, ℕ}
use mathlib.Core.Path.{◌≡◌, refl, sym, ap, ap₂, ◌∙◌}
use mathlib.Core.Bool.{Bool, true, false}
use mathlib.Core.List.{List, [], ◌∷◌}
use mathlib.Core.Option.{some}
use native.Mathlib.Omega.{arith}
use lib.Dec.{ltb}
use borrow.Author.Tests.{ltb-true, ltb-false, lt-ltb, le-ltb}
use Rattle.std.specs.Prelude.{if◌then◌else◌}
use Rattle.rules.specs.Basics.{Side, client, server}
use Rattle.rules.specs.State.{Aggregate}
use Rattle.rules.specs.Aggregates.{aggregates_of}
use Rattle.rules.specs.AggregateMoments.{InCase, MomentCase, case_moment, client_client_above, client_client_rest, client_server_above, client_server_rest, server_client_above, server_client_rest, server_server_above, server_server_rest}

-- ---- end and record, the multiple above the length or not

abbrev multiple : Side → Side → ℕ
multiple client client = 4
multiple client server = 3
multiple server client = 1
multiple server server = 4

abbrev above : Side → Side → MomentCase
above client client = client_client_above
above client server = client_server_above
above server client = server_client_above
above server server = server_server_above

abbrev rest : Side → Side → MomentCase
rest client client = client_client_rest
rest client server = client_server_rest
rest server client = server_client_rest
rest server server = server_server_rest

abbrev case_of : Side → Side → ℕ → ℕ → MomentCase
case_of z r d len = if ltb len (multiple z r * d) then above z r else rest z r

-- ---- what is proved of the cases

-- "the cases exclude each other": an input that is in two of them is in one
pub cases_exclude : (a b : MomentCase) (z r : Side) (d len : ℕ) → InCase a z r d len → InCase b z r d len → a ≡ b
cases_exclude a b z r d len p q = sym (is_case a p) ∙ is_case b q
  where
    at_sides : (x y : Side) → z ≡ x → r ≡ y → case_of z r d len ≡ case_of x y d len
    at_sides x y ez er = ap₂ (λ u v. case_of u v d len) ez er

    is_above : (x y : Side) → z ≡ x → r ≡ y → len < multiple x y * d → case_of z r d len ≡ above x y
    is_above x y ez er h = at_sides x y ez er ∙ ap (λ t. if t then above x y else rest x y) (lt-ltb len (multiple x y * d) h)

    is_rest : (x y : Side) → z ≡ x → r ≡ y → multiple x y * d ≤ len → case_of z r d len ≡ rest x y
    is_rest x y ez er h = at_sides x y ez er ∙ ap (λ t. if t then above x y else rest x y) (le-ltb len (multiple x y * d) h)

    is_case : (c : MomentCase) → InCase c z r d len → case_of z r d len ≡ c
    is_case client_client_above h = is_above client client h.0 h.1 (omega (arith, h.2))
    is_case client_client_rest h = is_rest client client h.0 h.1 (omega (arith, h.2))
    is_case client_server_above h = is_above client server h.0 h.1 (omega (arith, h.2))
    is_case client_server_rest h = is_rest client server h.0 h.1 (omega (arith, h.2))
    is_case server_client_above h = is_above server client h.0 h.1 (omega (arith, h.2))
    is_case server_client_rest h = is_rest server client h.0 h.1 (omega (arith, h.2))
    is_case server_server_above h = is_above server server h.0 h.1 (omega (arith, h.2))
    is_case server_server_rest h = is_rest server server h.0 h.1 (omega (arith, h.2))

-- "cover every input"
pub cases_cover : (z r : Side) (d len : ℕ) → (c : MomentCase) × InCase c z r d len
cases_cover z r d len = go (ltb len (multiple z r * d)) refl
  where
    in_above : (x y : Side) → len < multiple x y * d → InCase (above x y) x y d len
    in_above client client h = (refl, refl, omega (arith, h))
    in_above client server h = (refl, refl, omega (arith, h))
    in_above server client h = (refl, refl, omega (arith, h))
    in_above server server h = (refl, refl, omega (arith, h))

    in_rest : (x y : Side) → multiple x y * d ≤ len → InCase (rest x y) x y d len
    in_rest client client h = (refl, refl, omega (arith, h))
    in_rest client server h = (refl, refl, omega (arith, h))
    in_rest server client h = (refl, refl, omega (arith, h))
    in_rest server server h = (refl, refl, omega (arith, h))

    go : (t : Bool) → ltb len (multiple z r * d) ≡ t → (c : MomentCase) × InCase c z r d len
    go true e = (above z r, in_above z r (ltb-true len (multiple z r * d) e))
    go false e = (rest z r, in_rest z r (ltb-false len (multiple z r * d) e))

-- ---- the subtraction

module _ (d at len : ℕ) where
  abbrev lowered : Side → Side → ℕ
  lowered z r = at + (multiple z r * d - len)

  to : (z r x y : Side) (m : ℕ) → z ≡ x → r ≡ y → m ≡ lowered x y → m ≡ lowered z r
  to z r x y m ez er e = e ∙ ap₂ lowered (sym ez) (sym er)

  abbrev two : ℕ → ℕ → List Aggregate
  two a b = record { moment = a; length = len; side = client } ∷ record { moment = b; length = len; side = server } ∷ []

  subtracts : (z : Side) → aggregates_of d z at (some len) ≡ two (lowered z client) (lowered z server)
  unfolding aggregates_of
  subtracts client = refl
  subtracts server =
      let e : at + (d - len) ≡ at + (1 * d - len) = omega arith in
      ap (λ m. two m (at + (4 * d - len))) e

  -- "and give the moments that the subtraction gives": the two records of a delay are due when their cases say
  pub cases_give :
      (z : Side) (a b : MomentCase) → InCase a z client d len → InCase b z server d len
      → aggregates_of d z at (some len)
      ≡ record { moment = case_moment a d at len; length = len; side = client } ∷ record { moment = case_moment b d at len; length = len; side = server } ∷ []
  cases_give z a b p q = subtracts z ∙ ap₂ two (sym (case_subtracts a z client p)) (sym (case_subtracts b z server q))
    where
      case_subtracts : (c : MomentCase) (z r : Side) → InCase c z r d len → case_moment c d at len ≡ lowered z r
      case_subtracts client_client_above z r h = to z r client client _ h.0 h.1 refl
      case_subtracts client_client_rest z r h = to z r client client _ h.0 h.1 (omega (arith, h.2))
      case_subtracts client_server_above z r h = to z r client server _ h.0 h.1 refl
      case_subtracts client_server_rest z r h = to z r client server _ h.0 h.1 (omega (arith, h.2))
      case_subtracts server_client_above z r h = to z r server client _ h.0 h.1 (omega arith)
      case_subtracts server_client_rest z r h = to z r server client _ h.0 h.1 (omega (arith, h.2))
      case_subtracts server_server_above z r h = to z r server server _ h.0 h.1 refl
      case_subtracts server_server_rest z r h = to z r server server _ h.0 h.1 (omega (arith, h.2))
