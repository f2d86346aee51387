-- What the work of a call leaves where no row refuses it, before acceptance is shown. Assumes nothing.
use Rattle.std.specs.Prelude.{ℕ, ◌≡◌, List, length, get_or}
use Rattle.rules.specs.Choice.{Answer, refused}
use Rattle.rules.specs.Arguments.{Call, EventIn, sim_network_stack}
use Rattle.rules.specs.Calls.{work}
use Rattle.layout.specs.Spare.{Spare}
use Rattle.layout.specs.Layout.{state_of}
use Rattle.layout.specs.Shape.{Shaped}

-- what a call that is not refused leaves
pub record Does (w : List ℕ) (c : Call) (a : Answer) (left : List ℕ) : Type 0 where
  pub shaped : Shaped left
  pub answer : a ≡ (work (state_of w) c).answer
  pub state : state_of left ≡ (work (state_of w) c).state
  pub spare : (i : ℕ) → Spare i → get_or left i 0 ≡ get_or w i 0
  pub size : length left ≡ length w
  pub ten : (now : ℕ) (e : EventIn) → c ≡ sim_network_stack now e → a ≡ refused 10 0 → (i : ℕ) → (i ≡ 16 → ⊥) → get_or left i 0 ≡ get_or w i 0
