pub mod bytes
pub mod told
