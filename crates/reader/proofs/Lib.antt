pub mod Lists
pub mod Came
pub mod Returns
