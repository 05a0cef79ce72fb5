pub mod Scripting
pub mod Laws
