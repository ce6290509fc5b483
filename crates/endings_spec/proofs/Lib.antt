pub mod Order
pub mod ReplyWords
pub mod Words
pub mod Through
pub mod Table
pub mod Streams
pub mod Sizes
pub mod Examples
