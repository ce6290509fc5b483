pub mod Stages
pub mod Sending
pub mod Held
