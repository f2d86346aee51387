-- `accept::header::Header::test_slots` meets its contract. Assumes nothing.
use Prim.Native.Nat.{◌+◌}
use lib.ListN.{get_or}
use borrow.Author.Rules.{rules}
use native.Mathlib.Omega.{arith}
use Rattle.accept.specs.Slots.{OkIn, RoomIn, FoundAll}
use Rattle.accept.proofs.Slots.{past_client_set, past_server_set, client_wrong, server_wrong, right_in, slots_all, reserve_all}
use Rattle.accept.proofs.header.Header.test_slots.Goals.{After-blocks_room}
use Rattle.accept.proofs.header.Header.test_slots.Goals as goal

-- what the loops found of each side's machines
client : (c : After-blocks_room) → let h = c.args.self.now.words.now in OkIn h 0 (get_or h 8 0) × RoomIn h 0 (get_or h 8 0) c.in_ok-of_client.of_client
client c = rw (c.between-3.ensures.from, c.between-3.ensures.end) at (right_in _ _ _ _ c.each_slot.ensures _ c.in_ok-of_client.was)

server : (c : After-blocks_room) → let h = c.args.self.now.words.now in OkIn h 16 (16 + get_or h 9 0) × RoomIn h 16 (16 + get_or h 9 0) c.in_ok-of_server.of_server
server c = rw (c.between-4.ensures.from, c.between-4.ensures.end) at (right_in _ _ _ _ c.each_slot-2.ensures _ c.in_ok-of_server.was)

pub returns-then-not-all_empty : goal.returns-then-not-all_empty
returns-then-not-all_empty c = search (rules, past_client_set)

pub returns-then-not-all_empty-2 : goal.returns-then-not-all_empty-2
returns-then-not-all_empty-2 c = search (rules, past_server_set)

pub returns-in_err-of_client : goal.returns-in_err-of_client
returns-in_err-of_client c = rw c.from_residual.ensures (search (rules, client_wrong))

pub returns-in_err-of_server : goal.returns-in_err-of_server
returns-in_err-of_server c = rw c.from_residual-in_err-of_server.ensures (search (rules, server_wrong))

pub overflow_add-result : goal.overflow_add-result
overflow_add-result c = omega (arith, c.blocks_room.ensures.1, (client c).1.most, c.requires.limited 8 (omega arith))

pub overflow_add-result-2 : goal.overflow_add-result-2
overflow_add-result-2 c = omega (arith, c.blocks_room.ensures.1, (client c).1.most, c.requires.limited 8 (omega arith), (server c).1.most, c.requires.limited 9 (omega arith))

pub returns : goal.returns
unfolding FoundAll
returns c =
    let past_client = rw (c.between.ensures.from, c.between.ensures.end) at (c.all_empty.ensures.sound c.if-not-all_empty.false) in
    let past_server = rw (c.between-2.ensures.from, c.between-2.ensures.end) at (c.all_empty-2.ensures.sound c.if-not-all_empty-2.false) in
    let sum = reserve_all _ c.requires.limited past_client past_server _ _ _ c.blocks_room.ensures (client c).1 (server c).1 in
    (slots_all _ past_client past_server (client c).0 (server c).0, sum.0, sum.1)
