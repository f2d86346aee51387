pub mod Asking
pub mod Lent
pub mod Props
pub mod Session
