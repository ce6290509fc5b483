pub mod Demand3
pub mod Turns
pub mod Served
pub mod ServedTurns
