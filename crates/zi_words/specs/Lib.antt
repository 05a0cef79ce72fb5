pub mod Forms
pub mod Options
pub mod Store
pub mod Demo
pub mod Launch
pub mod Words
pub mod Refused
pub mod Taken
