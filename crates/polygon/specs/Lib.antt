pub mod Picked
pub mod PickedLaws
pub mod Outline
pub mod EdgeLaws
pub mod EndsLaws
pub mod BreaksLaws
pub mod Checks
pub mod CheckLaws
