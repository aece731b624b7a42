pub mod Told
pub mod Lengths
pub mod Enough
pub mod EnoughSizes
pub mod EnoughFiles
pub mod EnoughBasins
pub mod Limits
