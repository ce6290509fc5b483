pub mod due
pub mod start
pub mod outcome
