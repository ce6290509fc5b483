pub mod Lawful
pub mod Machines
pub mod Steps
pub mod Sequences
pub mod Checks
pub mod Asked
pub mod Rooms
pub mod Examples
