pub mod Session
pub mod Calls
pub mod Hold
