pub mod Facts
pub mod Telling
pub mod Lines
pub mod Laws
