pub mod Flat
pub mod Walks
