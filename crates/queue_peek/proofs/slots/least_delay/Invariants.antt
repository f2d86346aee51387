-- `queue_peek::slots::least_delay` meets its contract. The loop keeps the least delay of the slots from the machine on, whatever the records. Assumes nothing.
use Rattle.std.proofs.Common.{◌≡◌, ◌≤◌, ℕ, List, drop}
use Rattle.rules.specs.ChoiceDelays.{least_delay}
use Rattle.queue.specs.Heads.{side_held}
use Rattle.queue_peek.specs.Decoded.{delay_of}
use Rattle.queue_peek.proofs.slots.least_delay.Given as goal

abbrev pub invariant-loop-machine : goal.invariant-loop-machine
invariant-loop-machine g l = (l.machine ≤ 16) × ((rs : List ℕ) → delay_of l.best ≡ least_delay l.time.0 (drop l.machine (g.S.Slots.moments (side_held l.slotted.words.header.now rs l.client))))
