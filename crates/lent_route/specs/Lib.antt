pub mod State
pub mod Calls
pub mod Together
pub mod preparing
pub mod delivery
