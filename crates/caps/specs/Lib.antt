pub mod Caps
pub mod Grunbaum
pub mod Columns
pub mod Nodes
pub mod Quotients
