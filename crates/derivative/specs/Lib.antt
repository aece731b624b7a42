pub mod Derivative
pub mod Mirror
