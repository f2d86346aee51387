pub mod Decoded
pub mod Promises
