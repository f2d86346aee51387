-- A test that decides a fact: its answer is true exactly where the fact holds. Assumes nothing.
use Rattle.std.specs.Prelude.{◌≡◌, Bool, true}

pub record Decides (P : Type 0) (r : Bool) : Type 0 where
  pub sound : r ≡ true → P
  pub complete : P → r ≡ true
