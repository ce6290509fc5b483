pub mod Feed
pub mod Deliveries
pub mod Accept
pub mod Pieces
pub mod Follow
pub mod Attempts
pub mod Graft
pub mod Sends
