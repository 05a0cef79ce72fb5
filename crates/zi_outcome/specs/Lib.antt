pub mod Refused
pub mod Writing
pub mod Line
