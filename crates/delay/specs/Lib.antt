pub mod Waiting
pub mod Tests
