pub mod Tunnels
pub mod Turns
pub mod Answering
pub mod Wants
pub mod Claims
