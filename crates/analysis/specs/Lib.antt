pub mod Analysis
pub mod Rows
pub mod Checks
pub mod Promise
