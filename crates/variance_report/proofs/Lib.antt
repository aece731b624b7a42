pub mod Lists
pub mod Variances
pub mod Texts
pub mod Cases
