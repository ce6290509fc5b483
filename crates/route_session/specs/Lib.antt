pub mod plan
pub mod calls
pub mod opening
