pub mod Places
pub mod Merging
pub mod Runs
pub mod Rankings
pub mod Rising
pub mod RankedIn
