pub mod Pairs
pub mod Window
pub mod Sums
