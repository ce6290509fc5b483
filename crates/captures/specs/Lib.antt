pub mod Walk
pub mod Calls
pub mod Judges
pub mod Own
pub mod Coded
pub mod Worked
