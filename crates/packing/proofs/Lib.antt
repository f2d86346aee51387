-- The laws of this crate, by file. Assumes nothing.
pub mod Copied
pub mod Written
pub mod Headers
pub mod Whole
