pub mod Sums
pub mod Mirror
pub mod Nodes
pub mod Checks
pub mod CheckLaws
pub mod Symmetry
