-- `accept::header::Header::each_slot` meets its contract: the slots below j are in order, and what they keep is added. Assumes nothing.
use Rattle.accept.specs.Slots.{OkIn, RoomIn}
use Rattle.accept.proofs.header.Header.each_slot.Given as goal

abbrev pub invariant-loop-j : goal.invariant-loop-j
invariant-loop-j l = OkIn l.self.words.now l.fn.slots.from l.j × RoomIn l.self.words.now l.fn.slots.from l.j l.reserve
