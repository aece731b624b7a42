pub mod Reduction
pub mod ReductionLaws
pub mod Columns
pub mod ColumnsLaws
pub mod ReflectionLaws
pub mod ReductionExamples
