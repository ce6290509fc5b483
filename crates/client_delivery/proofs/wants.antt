pub mod Laws
pub mod Ways
pub mod Texts
pub mod Short
pub mod Connect
pub mod Client
