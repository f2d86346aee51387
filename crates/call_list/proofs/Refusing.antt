-- Words that the test refuses are refused to every call. Assumes nothing.
use Prim.Native.Nat.{ℕ}
use mathlib.Core.Path.{◌≡◌, refl}
use mathlib.Core.List.{List}
use mathlib.Core.Option.{some}
use lib.ListN.{take}
use Rattle.std.specs.Prelude.{Result, Ok, Err, IsErr, IsErrAnd}
use Rattle.rules.specs.Arguments.{Call}
use Rattle.event.specs.Answers.{number_of, refusal_for}
use Rattle.event.specs.declared.answer.Reason.{Reason}
use Rattle.event.specs.declared.answer.Refusal.{Refusal}
use Rattle.simulator.specs.Numbers.{Lent}
use Rattle.simulator.proofs.Admitting.{lent_n}
use Rattle.simulator.proofs.Working.{answer_refused}
use Rattle.call_list.specs.Lent.{Tested}

pub tested_refused : (n : ℕ) (w : List ℕ) (x : Reason) (r : Result Unit Refusal) → Lent (take n w) (some (number_of x)) → IsErr r × IsErrAnd r (λ y. y ≡ refusal_for x) → Tested n w r
tested_refused n w x (Ok u) l h = absurd h.1
tested_refused n w x (Err r) l h = λ (c : Call). record { outcome = answer_refused (take n w) c x (Err r) (lent_n (take n w) c (number_of x) l) h; rest = refl }
