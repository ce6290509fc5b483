pub mod State
pub mod Fits
pub mod Calls
pub mod delivery
pub mod setting_up
