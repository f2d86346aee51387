-- What the accepted state says is said in one way: two proofs of it are equal, so a ghost field may hold it. Assumes nothing.
use Rattle.std.specs.Prelude.{ℕ, zero, suc, List, [], ◌∷◌}
use Rattle.std.proofs.Props.{props}
use Rattle.queue_event.specs.Chain.{Chain, Node}
use Rattle.queue_event.specs.Words.{next_of}
use Rattle.queue_event.specs.Tag.{kind_field}
use Rattle.layout.specs.Records.{Fit, Ordered}
use Rattle.layout.specs.Accepted.{Good, Accepted}

pub Chain-prop : (rs : List ℕ) (k n h : ℕ) → IsProp (Chain rs k n h)
unfolding Chain
Chain-prop rs k zero h = hlevel props
Chain-prop rs k (suc n) h = hlevel (props, Chain-prop rs k n (next_of rs h))

pub Fit-prop : (k m : ℕ) (xs : List Node) → IsProp (Fit k m xs)
unfolding Fit
Fit-prop k m [] = hlevel props
Fit-prop k m (x ∷ xs) = hlevel (props, Fit-prop k m xs)

pub Ordered-prop : (k m r : ℕ) (xs : List Node) → IsProp (Ordered k m r xs)
unfolding Ordered
Ordered-prop k m r [] = hlevel props
Ordered-prop k m r (x ∷ xs) = hlevel (props, Ordered-prop k x.rec.moment (kind_field x.rec.tag) xs)

pub Good-prop : (h rs : List ℕ) → IsProp (Good h rs)
Good-prop h rs = hlevel (props, Chain-prop, Fit-prop, Ordered-prop)

pub Accepted-prop : (w : List ℕ) → IsProp (Accepted w)
Accepted-prop w = hlevel (props, Good-prop)
