pub mod decision
pub mod destination
pub mod wants
