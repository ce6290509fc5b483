pub mod Cutting
pub mod Once
