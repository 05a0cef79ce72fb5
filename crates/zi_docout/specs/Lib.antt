pub mod Canonical
pub mod Amiss
pub mod Same
pub mod Answers
pub mod Elements
