pub mod Hung
pub mod Items
pub mod Order
pub mod Found
mod Holders
pub mod ChangeLemmas
pub mod Sizes
pub mod Pieces
pub mod Replaced
pub mod Joins
pub mod Rests
pub mod After
pub mod WalkLemmas
