pub mod Digits
pub mod Colons
pub mod Rows
pub mod Groups
pub mod ReadBack
pub mod Examples
mod Texts
