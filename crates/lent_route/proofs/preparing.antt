pub mod Hopping
pub mod Opening
