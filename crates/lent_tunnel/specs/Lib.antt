pub mod Demand3
pub mod Turns
pub mod Concealed
pub mod Served
pub mod ServedTurns
pub mod Routed
pub mod RoutedTurns
