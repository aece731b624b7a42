pub mod Kernel
pub mod Rows
pub mod Nodes
pub mod NodeLaws
pub mod Working
pub mod CheckLaws
pub mod KernelRow
