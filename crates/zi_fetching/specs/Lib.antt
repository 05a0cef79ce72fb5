pub mod Known
pub mod Outcomes
pub mod Fetching
pub mod Download
