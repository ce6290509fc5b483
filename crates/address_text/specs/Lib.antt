pub mod digits
pub mod ipv4
pub mod groups
pub mod ipv6
