pub mod host
pub mod checks
pub mod common
