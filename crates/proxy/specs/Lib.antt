pub mod Served
pub mod Turns
pub mod Wants
