pub mod Script
pub mod Laws
