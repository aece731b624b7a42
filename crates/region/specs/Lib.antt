pub mod Region
pub mod Written
pub mod Storage
pub mod RegionChecks
pub mod RegionAnswer
pub mod RegionSolve
