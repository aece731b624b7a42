pub mod PolarCap
pub mod CapStorage
pub mod CapOrder
pub mod CapAnswer
pub mod CapChecks
