pub mod Quick
pub mod Changes
