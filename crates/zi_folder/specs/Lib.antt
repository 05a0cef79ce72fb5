pub mod Opened
pub mod Paths
pub mod Seen
