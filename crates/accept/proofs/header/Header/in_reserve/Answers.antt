-- `accept::header::Header::in_reserve` meets its contract. Assumes nothing.
use Rattle.accept.proofs.Slots.{client_past, server_past, reserve_all}
use Rattle.accept.proofs.header.Header.in_reserve.Goals as goal

pub returns : goal.returns
returns c = reserve_all _ c.requires.limited (client_past _ c.requires.slots) (server_past _ c.requires.slots) _ _ _ c.blocks_room.ensures (rw (c.between.ensures.from, c.between.ensures.end) at c.slots_room-client.ensures) (rw (c.between-2.ensures.from, c.between-2.ensures.end) at c.slots_room-server.ensures)
