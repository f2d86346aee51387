-- The laws of this crate, by file. Assumes nothing.
pub mod HeaderWords
pub mod FreeRecords
pub mod TakeLaws
pub mod ActionLaws
pub mod ActionDone
pub mod BlockLaws
pub mod Lifted
pub mod ActLaws
pub mod RoundLaws
pub mod ChoiceLaws
