pub mod Text
pub mod ReadBack
pub mod Written
pub mod Examples
