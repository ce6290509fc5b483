pub mod Groups
pub mod Shortened
