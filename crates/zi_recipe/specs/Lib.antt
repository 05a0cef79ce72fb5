pub mod Steps
pub mod Limits
pub mod Asking
pub mod Making
pub mod Made
pub mod Levels
