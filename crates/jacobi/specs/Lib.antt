pub mod Jacobi
pub mod JacobiLaws
pub mod SweepCounts
