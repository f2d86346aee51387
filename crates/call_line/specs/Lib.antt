pub mod Held
pub mod Lines
pub mod Numerals
pub mod Steps
pub mod Words
