pub mod Packets
pub mod Judged
pub mod Rules
