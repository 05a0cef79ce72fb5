pub mod Running
pub mod Purged
pub mod Purging
