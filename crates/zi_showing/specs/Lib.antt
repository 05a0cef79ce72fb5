pub mod Tree
pub mod Text
pub mod Showing
pub mod Steps
pub mod Laws
