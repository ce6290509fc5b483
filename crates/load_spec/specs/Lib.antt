pub mod Load
pub mod Cutting
