pub mod Core
pub mod Resting
pub mod Ground
pub mod Conflict
pub mod Laws
