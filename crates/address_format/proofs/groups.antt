pub mod Runs
pub mod Puts
mod Scan
