pub mod Tally
pub mod Runs
pub mod Opens
pub mod Arguments
