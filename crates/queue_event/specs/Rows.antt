-- Records linked in a row. Assumes nothing.
use Rattle.std.specs.Prelude.{ℕ, zero, suc, List}
use Rattle.std.proofs.Props.{props}
use Rattle.queue_event.specs.Words.{next_of, In}

-- n records are linked from h, whatever their chain numbers and the link of the last
unfoldable pub Row : List ℕ → ℕ → ℕ → Type 0
Row rs zero h = Unit {0}
Row rs (suc n) h = In rs h × Row rs n (next_of rs h)

-- it is said in one way, so a ghost field may hold it
pub Row-prop : (rs : List ℕ) (n h : ℕ) → IsProp (Row rs n h)
unfolding Row
Row-prop rs zero h = hlevel props
Row-prop rs (suc n) h = hlevel (props, Row-prop rs n (next_of rs h))
