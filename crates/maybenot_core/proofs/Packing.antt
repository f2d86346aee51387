-- The promise of the exported packing from that of the packing which it makes. Assumes nothing.
use Prim.Native.Nat.{ℕ}
use mathlib.Core.Path.{◌≡◌, ◌∙◌}
use Rattle.std.specs.Prelude.{Result}
use mathlib.Core.List.{List}
use Rattle.event.specs.Answers.{answer_of}
use Rattle.event.specs.declared.answer.Refusal.{Refusal}
use Rattle.simulator.specs.Packs.{Packs}
use Rattle.calls.specs.Told.{code_in}
use Rattle.calls.proofs.Telling.{answer_code}
use Rattle.maybenot_core.specs.Packing.{PackTold}

pub pack_told :
    (w v : List ℕ) (n : ℕ) (a : Result Unit Refusal) (left : List ℕ) → Packs w v (answer_of a) left → n ≡ code_in a → PackTold w v n left
pack_told w v n a left o e = record { answer = answer_of a; outcome = o; number = e ∙ answer_code a }
