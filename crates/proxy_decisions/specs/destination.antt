pub mod Last
pub mod Sizes
