-- What is known of the lent words is known in one way. Assumes nothing.
use Rattle.std.specs.Prelude.{ℕ, Bool, List}
use Rattle.std.proofs.Props.{props}
use Rattle.layout.proofs.Props.{Accepted-prop}
use Rattle.call_list.specs.Lent.{Known}

pub Known-prop : (known : Bool) (n : ℕ) (w : List ℕ) → IsProp (Known known n w)
Known-prop known n w = hlevel (props, Accepted-prop)
