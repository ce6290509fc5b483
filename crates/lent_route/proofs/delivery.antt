pub mod Bounds
pub mod Relaying
pub mod Holding
pub mod Ending
