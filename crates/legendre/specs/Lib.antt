pub mod Rows
pub mod Directions
pub mod Checks
pub mod Stored
pub mod Grown
pub mod Mirrored
pub mod Laws
pub mod MirrorLaws
