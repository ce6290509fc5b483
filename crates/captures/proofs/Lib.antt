pub mod Prepared
pub mod Walked
pub mod Judges
pub mod Own
pub mod Claims
pub mod Examples
