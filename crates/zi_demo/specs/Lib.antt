pub mod Feeds
pub mod Plain
