pub mod numerals
pub mod groups
pub mod endpoint
