pub mod Basis
pub mod Regions
pub mod Places
pub mod Nodes
pub mod NodeLaws
pub mod Examples
