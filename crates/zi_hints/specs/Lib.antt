pub mod Saying
pub mod Faults
pub mod Spot
pub mod Causes
pub mod Remedies
pub mod WrongWords
pub mod Hints
pub mod Laws
