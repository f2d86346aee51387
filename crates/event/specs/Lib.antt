-- The definitions of this crate, by file. Assumes nothing.
pub mod HandedIn
pub mod Answers
pub mod Values
