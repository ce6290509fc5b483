pub mod classes
