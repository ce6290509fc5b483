pub mod Codes
pub mod Writing
pub mod Leaving
pub mod Setting
