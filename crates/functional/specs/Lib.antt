pub mod Factor
pub mod GravityAnomaly
pub mod Numbers
pub mod Stored
