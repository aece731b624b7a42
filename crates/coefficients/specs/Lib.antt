pub mod Model
pub mod Checks
pub mod Values
pub mod Cuts
