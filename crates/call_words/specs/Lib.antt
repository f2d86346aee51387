pub mod Asked
pub mod Names
pub mod Shapes
pub mod Text
