pub mod Functions
pub mod CapPlaces
pub mod CapRanked
