pub mod Joins
pub mod Gaps
