pub mod Stored
pub mod Colons
