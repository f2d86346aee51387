-- What the exported packing promises: the promise of packing, and its answer as a number. Assumes nothing.
use Rattle.std.specs.Prelude.{ℕ, ◌≡◌, List}
use Rattle.rules.specs.Choice.{Answer}
use Rattle.simulator.specs.Packs.{Packs}
use Rattle.calls.specs.Told.{number_in}

-- packing the words w into a second block that held v: it keeps the promise of packing, and n is the number of its answer
pub record PackTold (w v : List ℕ) (n : ℕ) (left : List ℕ) : Type 0 where
  pub answer : Answer
  pub outcome : Packs w v answer left
  pub number : n ≡ number_in answer
