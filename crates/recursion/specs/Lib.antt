pub mod Recursion
pub mod RecursionLaws
pub mod Tables
pub mod Pole
pub mod Mirror
