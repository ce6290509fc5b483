pub mod turns
pub mod piece
pub mod delivery
