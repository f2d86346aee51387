pub mod Writes
pub mod Windows
pub mod Packets
pub mod Steps
