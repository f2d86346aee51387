-- `accept::header::Header::each_slot` meets its contract. Assumes nothing.
use mathlib.Core.Path.{◌≡◌}
use native.Mathlib.Omega.{arith}
use Rattle.layout.proofs.Deciding.{denied}
use Rattle.accept.specs.Slots.{FoundIn}
use Rattle.accept.proofs.Slots.{ok_more, room_turn}
use Rattle.accept.proofs.header.Header.each_slot.Goals as goal

pub returns-then-not-slot_ok : goal.returns-then-not-slot_ok
unfolding FoundIn
returns-then-not-slot_ok c = λ ok. denied c.slot_ok.ensures c.if-not-slot_ok.true (ok _ c.loop-j.auto.j (omega arith))

pub loop-j-preserved : goal.loop-j-preserved
loop-j-preserved c = (ok_more _ _ _ c.loop-j.invariant.0 (c.slot_ok.ensures.sound c.if-not-slot_ok.false), rw c.slot_room-reserve.ensures.0 (room_turn _ _ _ _ c.loop-j.invariant.1))

pub returns : goal.returns
unfolding FoundIn
returns c = let e : c.loop-j.j ≡ c.args.slots.end = omega arith in (rw e at c.loop-j.invariant.0, rw e at c.loop-j.invariant.1)
