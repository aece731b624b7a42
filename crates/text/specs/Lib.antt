pub mod Stored
pub mod Digits
