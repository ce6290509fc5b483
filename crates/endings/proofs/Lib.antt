pub mod Checks
pub mod Prepared
pub mod Promise
pub mod Led
pub mod Claims
