pub mod Forest
pub mod Places
pub mod Namespace
