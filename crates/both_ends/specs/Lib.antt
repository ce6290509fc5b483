pub mod Ends
pub mod Meet
