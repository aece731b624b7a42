pub mod Ql
pub mod QlLaws
pub mod RoundCounts
