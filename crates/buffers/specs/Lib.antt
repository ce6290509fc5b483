pub mod write
pub mod hold
