pub mod Asked
pub mod Begun
pub mod Kept
