pub mod Endings
pub mod RouteEndings
pub mod Streams
