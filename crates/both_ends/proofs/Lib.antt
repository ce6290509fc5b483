pub mod Begins
pub mod Requests
pub mod Replies
pub mod Meet
pub mod Sendable
pub mod Versions
pub mod Calls
pub mod Claims
