-- `candidate::slots::machine_at` meets its contract. Assumes nothing.
use native.Mathlib.Omega.{arith}
use Rattle.queue.specs.Heads.{side_held}
use Rattle.queue.proofs.SlotLaws.{machines_held}
use Rattle.candidate.proofs.SlotLaws.{machine_found, machine_nowhere}
use Rattle.candidate.proofs.slots.machine_at.Goals as goal

pub returns-then-has_moment : goal.returns-then-has_moment
returns-then-has_moment g c = λ rs. search (machine_found, c.loop-machine.invariant rs, c.moment.ensures rs)

pub returns : goal.returns
returns g c =
    λ rs. let e = machines_held c.args.slotted.now.words.header.now rs c.args.client _ c.of_side-machines.ensures in
    machine_nowhere (g.S.Slots.moments (side_held c.args.slotted.now.words.header.now rs c.args.client)) _ _ _ (c.loop-machine.invariant rs) _ (omega arith) (λ i k. g.met.S.Slots.beyond c.args.slotted.now.words.header.now rs c.args.client i c.args.slotted.now.slots (rw e k))
