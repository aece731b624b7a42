pub mod SameEntries
pub mod DrawnAverage
