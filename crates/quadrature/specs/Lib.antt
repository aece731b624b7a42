pub mod Gauss
pub mod GaussLaws
pub mod GaussExamples
