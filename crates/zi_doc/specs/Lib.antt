pub mod Kinds
pub mod View
pub mod Moves
pub mod Answers
pub mod Documents
pub mod Laws
