pub mod State
pub mod Fits
pub mod Calls
pub mod Given
pub mod delivery
pub mod preparing
