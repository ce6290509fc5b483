pub mod InTwo
pub mod Demand3
pub mod Attempts
pub mod Turns
pub mod Wants
pub mod Examples
