pub mod Point
pub mod Local
pub mod Second
pub mod Symmetric
