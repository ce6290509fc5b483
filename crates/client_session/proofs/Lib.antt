pub mod Deliveries
pub mod Hold
pub mod Named
