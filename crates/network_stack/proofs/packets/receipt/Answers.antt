-- `network_stack::packets::receipt` meets its contract. Assumes nothing.
use Rattle.network_stack.proofs.PacketLaws.{receipt_packet}
use Rattle.network_stack.proofs.packets.receipt.Goals as goal

pub returns : goal.returns
returns c = search receipt_packet
