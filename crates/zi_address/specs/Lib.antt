pub mod Texts
pub mod Address
