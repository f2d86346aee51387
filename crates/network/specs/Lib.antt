pub mod Due
pub mod Stamps
pub mod Plans
