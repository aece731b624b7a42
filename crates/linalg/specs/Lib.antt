pub mod Eigen
pub mod Solution
pub mod Sizes
pub mod EigenLaws
pub mod Checks
pub mod Within
pub mod Limits
