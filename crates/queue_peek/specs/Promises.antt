-- What the inner functions promise beyond an equation. Assumes nothing.
use Rattle.std.specs.Prelude.{ℕ, ◌≤◌, ◌≡◌, Bool, List, Option}
use Rattle.std.proofs.Math.Option as RulesOption
use Rattle.rules.specs.Limits.{moment_limit}
use Rattle.rules.specs.ChoiceHeads.{not_before}
use Rattle.queue.specs.declared.peek.Head.{Head}
use Rattle.queue.specs.Heads.{found_of, Stands}

-- of what was found, moved to the moment `end` where it is earlier: it stands where it stood
pub record Lifted (end : ℕ) (f r : Option Head) : Type 0 where
  pub is : found_of r ≡ RulesOption.map (not_before end) (found_of f)
  pub stands : (h rs : List ℕ) (client : Bool) → end ≤ moment_limit → Stands h rs client f → Stands h rs client r
