-- Records of four words: the words of record r (from 1), and a store to one. Assumes nothing.
use Rattle.std.specs.Prelude.{ℕ, ◌+◌, ◌-◌, ◌*◌, ◌≤◌, List, length, get_or, set}

-- word i of record r
unfoldable pub word : List ℕ → ℕ → ℕ → ℕ
word rs r i = get_or rs (4 * r - 4 + i) 0

-- the slice with v as word i of record r
unfoldable pub put : List ℕ → ℕ → ℕ → ℕ → List ℕ
put rs r i v = set rs (4 * r - 4 + i) v

-- the slice with record q written whole
unfoldable pub filled : List ℕ → ℕ → ℕ → ℕ → ℕ → ℕ → List ℕ
filled rs q next m l t = put (put (put (put rs q 0 next) q 1 m) q 2 l) q 3 t

abbrev pub next_of : List ℕ → ℕ → ℕ
next_of rs r = word rs r 0

abbrev pub moment_of : List ℕ → ℕ → ℕ
moment_of rs r = word rs r 1

abbrev pub length_of : List ℕ → ℕ → ℕ
length_of rs r = word rs r 2

abbrev pub tag_of : List ℕ → ℕ → ℕ
tag_of rs r = word rs r 3

-- r is a record of the slice
pub record In (rs : List ℕ) (r : ℕ) : Type 0 where
  pub one : 1 ≤ r
  pub fits : 4 * r ≤ length rs
