pub mod Quick
pub mod Leaving
