pub mod Truth
pub mod Form
pub mod Lent
pub mod Places
pub mod Flat
