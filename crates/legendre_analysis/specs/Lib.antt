pub mod Degrees
pub mod Division
