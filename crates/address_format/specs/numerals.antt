pub mod Digits
pub mod Added
pub mod Read
