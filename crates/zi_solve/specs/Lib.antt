pub mod Answers
pub mod Laws
pub mod Replays
pub mod Making
pub mod Turns
