pub mod Codes
pub mod Writing
