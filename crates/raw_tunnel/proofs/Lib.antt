pub mod Carried
pub mod Turns
pub mod Tunnels
pub mod Served
pub mod ServedTurns
pub mod Claims
