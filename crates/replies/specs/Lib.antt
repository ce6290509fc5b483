pub mod unread
