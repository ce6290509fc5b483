pub mod Words
pub mod Reads
pub mod End
pub mod Side
pub mod Wants
pub mod Shortest
pub mod Worked
pub mod WorkedWants
