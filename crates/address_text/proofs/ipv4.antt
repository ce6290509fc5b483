pub mod Texts
pub mod Dots
