pub mod Readers
pub mod Inside
pub mod Coded
pub mod Parts
pub mod Lines
pub mod Promise
pub mod Claims
