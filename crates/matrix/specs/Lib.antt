pub mod Matrix
pub mod Layout
