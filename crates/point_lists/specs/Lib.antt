pub mod Checks
pub mod Tables
pub mod Made
pub mod Alone
