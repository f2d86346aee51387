-- Any call, and any list of calls, reads values only.
use Rattle.std.specs.Prelude.{◌≡◌, refl, List, [], ◌∷◌}
use Rattle.rules.specs.State.{State}
use Rattle.rules.specs.Arguments.{Call}
use Rattle.rules.specs.Calls.{call}
use Rattle.rules.specs.CallLists.{answers, after_all}
use Rattle.laws.specs.Unplaced.{Alike}
use Rattle.laws.specs.UnplacedCalls.{call_reads_values}

pub list_reads_values : (l : List Call) (s t : State) → Alike s t → (answers s l ≡ answers t l) × Alike (after_all s l) (after_all t l)
list_reads_values [] s t h = (refl, h)
list_reads_values (c ∷ l) s t h =
    let a = call_reads_values s t c h in
    let b = list_reads_values l (call s c).state (call t c).state a.1 in
    (λ d. a.0 d ∷ b.0 d, b.1)
