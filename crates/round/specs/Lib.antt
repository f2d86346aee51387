-- The definitions of this crate, by file. Assumes nothing.
pub mod Changes
pub mod Cases
pub mod Rounds
