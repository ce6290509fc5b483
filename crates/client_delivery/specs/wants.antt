pub mod Wants
pub mod Still
