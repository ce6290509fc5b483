pub mod Grammar
pub mod Place
pub mod Reading
pub mod Ipv6Endings
