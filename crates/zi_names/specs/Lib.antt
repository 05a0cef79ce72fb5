pub mod Levels
pub mod Names
pub mod Places
pub mod Scopes
