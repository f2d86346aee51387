-- What `?` hands on of a test that refuses: its reason, or the refusal before any round. Assumes nothing.
use mathlib.Core.Path.{◌≡◌, ap}
use mathlib.Core.Bool.{false≢true}
use mathlib.Core.Option.{some}
use Rattle.std.specs.Prelude.{Result, Ok, Err, IsErr, IsErrAnd, IfOk}
use Rattle.event.specs.Answers.{number_of}
use Rattle.event.specs.declared.answer.Reason.{Reason}
use Rattle.simulator.specs.Numbers.{refused_with}

pub handed : {A : Type 0} (r : Result A Reason) (x : Reason) → IsErr r × IsErrAnd r (λ y. y ≡ x) → refused_with r ≡ some (number_of x)
handed (Ok y) x h = absurd h.1
handed (Err y) x h = ap (λ z. some (number_of z)) h.1

-- and nothing beside it
pub no_value : {A : Type 0} (P : A → Type 0) (r : Result A Reason) → IsErr r → IfOk r P
no_value P (Ok y) h = absurd (false≢true h)
no_value P (Err y) h = tt
