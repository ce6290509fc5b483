pub mod Calls
pub mod Taking
