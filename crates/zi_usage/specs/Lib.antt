pub mod Places
pub mod Standing
pub mod Advice
pub mod Former
