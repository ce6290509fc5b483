pub mod Decision
pub mod Talk
pub mod Tunnel
pub mod Lawful
pub mod Pieces
pub mod Follow
pub mod Attempts
pub mod Graft
