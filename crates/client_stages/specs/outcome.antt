pub mod Told
pub mod Ends
