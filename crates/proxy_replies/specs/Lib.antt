pub mod write
pub mod stages
