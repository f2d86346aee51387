-- The definitions of this crate, by file. Assumes nothing.
pub mod Words
pub mod Tag
pub mod Chain
pub mod Frame
pub mod Links
pub mod Order
pub mod Tail
pub mod Folds
pub mod Values
pub mod Rows
pub mod Walks
