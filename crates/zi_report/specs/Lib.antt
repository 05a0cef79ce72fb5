pub mod Text
pub mod Taking
pub mod Reported
