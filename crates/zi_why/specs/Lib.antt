pub mod Reasons
pub mod Laws
pub mod Reports
pub mod Known
pub mod Taking
