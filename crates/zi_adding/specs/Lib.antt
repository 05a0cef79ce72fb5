pub mod Trying
pub mod Answers
pub mod Gains
