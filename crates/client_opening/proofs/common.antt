pub mod Targets
pub mod KeptBy
pub mod Accepting
pub mod Records
