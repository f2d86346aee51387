-- `queue_peek::slots::least_delay` meets its contract. Assumes nothing.
use mathlib.Core.Path.{sym, ap, ◌∙◌}
use native.Mathlib.Omega.{arith}
use Rattle.std.specs.Prelude.{Some}
use Rattle.queue.specs.Views.{moment_no}
use Rattle.queue.proofs.SlotLaws.{machines_few, machines_held}
use Rattle.queue_peek.proofs.SlotDelays.{least_start, least_turn, least_kept}
use Rattle.queue_peek.proofs.slots.least_delay.Goals as goal

pub loop-machine-init : goal.loop-machine-init
loop-machine-init g c =
    let few = machines_few c.args.slotted.now.words.header.now c.args.client _ c.args.slotted.now.limits c.of_side-machines.ensures in (
      omega (arith, few),
      λ rs. let e = machines_held c.args.slotted.now.words.header.now rs c.args.client _ c.of_side-machines.ensures in
          least_start c.args.time.0 _ _ (λ i k. g.met.S.Slots.beyond c.args.slotted.now.words.header.now rs c.args.client i c.args.slotted.now.slots (omega (arith, few, e, k))),
    )

pub loop-machine-preserved-in-Some : goal.loop-machine-preserved-in-Some
loop-machine-preserved-in-Some g c = (
  omega arith,
  λ rs. least_turn c.args.time.0 c.loop-machine.machine _ _ _ _ (Some c.in-Some.moment) (omega arith) c.loop-machine.invariant.0 (g.met.S.Slots.sixteen c.args.slotted.now.words.header.now rs c.args.client) (c.loop-machine.invariant.1 rs) (ap moment_no (sym c.in-Some.is) ∙ c.moment.ensures rs) c.slot_delay-delay.ensures c.earlier-best.ensures,
)

pub loop-machine-preserved : goal.loop-machine-preserved
loop-machine-preserved g c = (
  omega arith,
  λ rs. least_kept c.args.time.0 c.loop-machine.machine _ _ _ (omega arith) c.loop-machine.invariant.0 (g.met.S.Slots.sixteen c.args.slotted.now.words.header.now rs c.args.client) (c.loop-machine.invariant.1 rs) (c.moment.ensures rs) c.in_default.is,
)
