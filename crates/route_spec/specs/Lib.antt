pub mod Route
pub mod Hops
