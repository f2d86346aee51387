pub mod Candidates
pub mod Promises
