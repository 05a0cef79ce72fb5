pub mod Clauses
pub mod Laws
pub mod Answers
pub mod There
pub mod Writing
