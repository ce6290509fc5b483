pub mod Coded
pub mod Calls
pub mod Reads
