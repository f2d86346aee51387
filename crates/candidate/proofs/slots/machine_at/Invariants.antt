-- `candidate::slots::machine_at` meets its contract. The loop keeps Missed: no slot below the machine has the moment, whatever the records. Assumes nothing.
use Rattle.std.proofs.Common.{ℕ, List}
use Rattle.queue.specs.Heads.{side_held}
use Rattle.candidate.proofs.SlotLaws.{Missed}
use Rattle.candidate.proofs.slots.machine_at.Given as goal

abbrev pub invariant-loop-machine : goal.invariant-loop-machine
invariant-loop-machine g l = (rs : List ℕ) → Missed (g.S.Slots.moments (side_held l.slotted.words.header.now rs l.client)) l.moment.0 l.machine
