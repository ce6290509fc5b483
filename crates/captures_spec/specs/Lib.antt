pub mod Captures
pub mod Reading
