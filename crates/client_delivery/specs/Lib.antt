pub mod bound_address
pub mod turns
pub mod piece
pub mod delivery
pub mod wants
