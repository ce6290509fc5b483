pub mod Calls
pub mod Produces
pub mod Led
pub mod Coded
