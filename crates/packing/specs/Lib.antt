-- The definitions of this crate, by file. Assumes nothing.
pub mod Heads
pub mod Copying
pub mod Writing
